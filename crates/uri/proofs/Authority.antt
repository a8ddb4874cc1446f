-- An authority, and what is left of it past its "@": by one look at each byte.
use Prim.Native.Nat.{ℕ, suc, ◌+◌, ◌<◌, ◌≤◌}
use mathlib.Core.Path.{◌≡◌, refl, sym, ap, fun_ext, ◌∙◌}
use mathlib.Core.Bool.{Bool, true, false, or-false, or-true}
use mathlib.Core.List.{List, [], ◌∷◌}
use native.Mathlib.Omega.{arith}
use lib.ListN.{length, get_or, take, drop, length-drop}
use lib.Dec.{eqb, ltb}
use borrow.Author.Tests.{eq-eqb, ne_eqb, eqb-true, ltb-true, ltb-false}
use Rattle.octets.proofs.Cases.{by_cases, clash}
use Rattle.octets.proofs.Cut as cut
use Rattle.octets.proofs.Place.{part_before, part_after, passes_at, whole_before}
use Rattle.std.specs.List.{position_or_len}
use Rattle.rules.specs.Bytes.{any, before, after}
use Rattle.rules.specs.Names.{is, at_sign, slash, authority_end}
use Rattle.uri.specs.Parts.{stops, host_port}

-- a slash ends an authority anyhow
stops_end : (x : ℕ) → stops slash x ≡ authority_end x
unfolding stops authority_end
stops_end x = by_cases (eqb x slash) (λ e. rw e) (λ e. simp (e, or-false))

-- so up to a slash or an end is up to an end
before_end : (s : List ℕ) → before (stops slash) s ≡ before authority_end s
before_end s = ap (λ (p : ℕ → Bool). before p s) (fun_ext stops_end)

-- ---- host and port

-- an end stops
end_stops : (x : ℕ) → authority_end x ≡ true → stops at_sign x ≡ true
unfolding stops
end_stops x e = rw e

-- an "@" does
at_stops : (x : ℕ) → is at_sign x ≡ true → stops at_sign x ≡ true
unfolding stops
at_stops x e = simp (e, or-true)

-- and is no end
at_no_end : (x : ℕ) → is at_sign x ≡ true → authority_end x ≡ false
unfolding authority_end
at_no_end x e = rw (eqb-true x at_sign e)

-- what stops and is no "@" is an end
other_end : (x : ℕ) → stops at_sign x ≡ true → is at_sign x ≡ false → authority_end x ≡ true
unfolding stops
other_end x e f = rw (f, or-false) at e

-- the first byte that stops is an "@": the authority goes on past it
goes_on : (x : ℕ) → stops at_sign x ≡ false → (authority_end x ≡ false) × (is at_sign x ≡ false)
unfolding stops
goes_on x e = by_cases (authority_end x) (λ f. clash (rw f) e) (λ f. (f, rw f at e))

-- so the authority holds an "@"
has_at : (s : List ℕ) → length (before (stops at_sign) s) < length s → is at_sign (get_or s (length (before (stops at_sign) s)) 0) ≡ true
    → any (is at_sign) (before authority_end s) ≡ true
unfolding before
has_at [] h e = absurd (omega arith)
has_at (x ∷ s) h e =
    by_cases (stops at_sign x)
    (λ t. let f : is at_sign x ≡ true = rw t at e in rw (at_no_end x f, f))
    (λ t.
    let k : suc (length (before (stops at_sign) s)) < suc (length s) = rw t at h in
    rw ((goes_on x t).0, (goes_on x t).1) (has_at s (omega arith) (rw t at e)))

-- and past it goes on to its end
past_at : (s : List ℕ) → length (before (stops at_sign) s) < length s → is at_sign (get_or s (length (before (stops at_sign) s)) 0) ≡ true
    → after (is at_sign) (before authority_end s) ≡ before authority_end (after (stops at_sign) s)
unfolding before after
past_at [] h e = absurd (omega arith)
past_at (x ∷ s) h e =
    by_cases (stops at_sign x)
    (λ t. let f : is at_sign x ≡ true = rw t at e in rw (at_no_end x f, f, t))
    (λ t.
    let k : suc (length (before (stops at_sign) s)) < suc (length s) = rw t at h in
    rw ((goes_on x t).0, (goes_on x t).1, t) (past_at s (omega arith) (rw t at e)))

-- up to the first "@" or the authority's end nothing is an "@" or an end
module _ (rest : List ℕ) (n : ℕ) (at : n ≡ length (before (stops at_sign) rest)) where
  -- no end
  no_end : any authority_end (before (stops at_sign) rest) ≡ false
  no_end = cut.any_before (stops at_sign) authority_end end_stops rest

  -- and no "@"
  no_at : any (is at_sign) (before (stops at_sign) rest) ≡ false
  no_at = cut.any_before (stops at_sign) (is at_sign) at_stops rest

  -- the text or the authority ends first: all of the authority
  pub host_plain : (n < length rest → get_or rest n 0 ≡ 0x40 → ⊥) → n ≤ length rest → take n rest ≡ host_port rest
  unfolding host_port
  host_plain e h = sym (rw (ends, no_at) (sym (part_before (stops at_sign) rest n at)))
    where
      ends : before authority_end rest ≡ before (stops at_sign) rest
      ends =
          by_cases (ltb n (length rest))
          (λ k.
          let l : n < length rest = ltb-true n (length rest) k in
          let q : authority_end (get_or rest n 0) ≡ true =
          other_end (get_or rest n 0) (passes_at (stops at_sign) rest n at l) (ne_eqb (get_or rest n 0) 0x40 (e l)) in
          cut.before_there (stops at_sign) authority_end end_stops rest (rw (← at) l) (rw (← at) q))
          (λ k.
          let w : before (stops at_sign) rest ≡ rest = whole_before (stops at_sign) rest n at (ltb-false n (length rest) k) in
          cut.before_whole authority_end rest (rw w at no_end) ∙ sym w)

  -- an "@" comes first: what follows it, up to the end
  pub host_past : (host : List ℕ) → host ≡ drop (n + 1) rest → (end : ℕ) → end ≡ length (before (stops slash) host) → get_or rest n 0 ≡ 0x40
      → n < length rest → take end host ≡ host_port rest
  unfolding host_port
  host_past host f end g e l =
      let a : is at_sign (get_or rest n 0) ≡ true = eq-eqb (get_or rest n 0) 0x40 e in
      part_before (stops slash) host end g
      ∙ before_end host
      ∙ ap (before authority_end) (f ∙ part_after (stops at_sign) rest n at)
      ∙ sym (rw (has_at rest (rw (← at) l) (rw (← at) a)) (past_at rest (rw (← at) l) (rw (← at) a)))

-- ---- its length

after_within : (p : ℕ → Bool) (s : List ℕ) → length (after p s) ≤ length s
after_within p s = omega (arith, ap length (sym (cut.drop_after p s)), length-drop (length (before p s) + 1) s)

-- what is left of an authority is no longer than what it stands in
pub host_within : (rest : List ℕ) → length (host_port rest) ≤ length rest
unfolding host_port
host_within rest =
    let short = cut.before_within authority_end rest in
    by_cases (any (is at_sign) (before authority_end rest))
    (λ e. rw e (omega (arith, after_within (is at_sign) (before authority_end rest))))
    (λ e. rw e short)

-- ---- the place of a byte

-- how many bytes stand before the first that passes
pub place_is : (p : ℕ → Bool) (s : List ℕ) → length (before p s) ≡ position_or_len p s
unfolding before
place_is p [] = refl
place_is p (x ∷ s) = by_cases (p x) (λ e. rw e) (λ e. rw e (omega (arith, place_is p s)))
