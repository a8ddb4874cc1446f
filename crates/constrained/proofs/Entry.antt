-- Whether an entry of a SAN breaks a string, and the first entry that does.
use Prim.Native.Nat.{ℕ, suc, ◌+◌}
use mathlib.Core.Path.{◌≡◌, refl, sym, ◌∙◌}
use mathlib.Core.Bool.{Bool, true, false, cond, ◌||◌}
use mathlib.Core.Option.{none, some}
use mathlib.Core.List.{List, [], ◌∷◌}
use native.Mathlib.Omega.{arith}
use lib.ListN.{length}
use lib.Dec.{ltb}
use Rattle.std.specs.Prelude as std
use Rattle.std.specs.Prelude.{Some, None, Ok, Err}
use Rattle.std.specs.List.{position_or_len}
use Rattle.rules.specs.Der.{Member}
use Rattle.rules.specs.San.{GeneralName}
use Rattle.rules.specs.Matching.{breaks_as, breaks, first_broken}
use borrow.Author.Tests.{lt-ltb, le-ltb, ltb-true, ltb-false}
use Rattle.octets.proofs.Cases.{clash, by_cases}
use Rattle.reading.specs.Strings.{read_name, read_san, read_constraints}
use Rattle.der.specs.Places.{Answer, element_at}
use Rattle.der.specs.declared.Element.{Element}
use Rattle.der.specs.declared.ElementError.{ElementError}
use Rattle.der.specs.Runs.{Run, validated, names_of, content_start, start_found, start_none, san_filled}
use Rattle.entries.specs.Entries.{form_of}
use Rattle.constrained.specs.Subtrees.{restricting}
use Rattle.constrained.specs.Breaches.{first_of}
use Rattle.constrained.specs.Walks.{entries_left}
use Rattle.constrained.specs.declared.Entries.{Entries}
use Rattle.constrained.specs.declared.Restrictions.{Restrictions}
use Rattle.constrained.proofs.Permission.{breaks_free}

-- ---- one entry

module _ (w : Restrictions) (m : GeneralName) (r : Bool) (r_is : r ≡ breaks_as (form_of w.srv.form) (names_of read_constraints w.srv.constraints.now) m) where
  pub either_srv : r ≡ true → r ≡ breaks (names_of read_constraints w.srv.constraints.now) m
  unfolding breaks
  either_srv e = e ∙ rw (← (rw w.of_srv at r_is), e)

  pub either_dns : r ≡ false → (q : Bool) → q ≡ breaks_as (form_of w.dns.form) (names_of read_constraints w.dns.constraints.now) m
      → q ≡ breaks (names_of read_constraints w.srv.constraints.now) m
  unfolding breaks
  either_dns e q q_is = (rw (w.of_dns, w.of_one) at q_is) ∙ rw (← (rw w.of_srv at r_is), e)

pub ruleset either = (either_srv, either_dns)

-- ---- all entries

-- the first that breaks the string, as `position` counts it
unfoldable pub place : (GeneralName → Bool) → ℕ → List GeneralName → std.Option ℕ
place p i l = cond (ltb (position_or_len p l) (length l)) (Some (i + position_or_len p l)) None

ltb_suc : (a b : ℕ) → ltb (suc a) (suc b) ≡ ltb a b
ltb_suc a b =
    by_cases (ltb a b) (λ q. lt-ltb (suc a) (suc b) (omega (arith, ltb-true a b q)) ∙ sym q)
    (λ q. le-ltb (suc a) (suc b) (omega (arith, ltb-false a b q)) ∙ sym q)

place_next : (p : GeneralName → Bool) (i : ℕ) (m : GeneralName) (l : List GeneralName) → p m ≡ false → place p i (m ∷ l) ≡ place p (suc i) l
unfolding place
place_next p i m l e =
    let one : 1 + position_or_len p l ≡ suc (position_or_len p l) = omega arith in
    let more : i + suc (position_or_len p l) ≡ suc i + position_or_len p l = omega arith in
    let less : ltb (suc (position_or_len p l)) (length (m ∷ l)) ≡ ltb (position_or_len p l) (length l) = ltb_suc (position_or_len p l) (length l) in
    rw (e, one, more, less) refl

first_place : (cs : List (Member GeneralName)) (i : ℕ) (l : List GeneralName) → first_of (first_broken i cs l) ≡ place (breaks cs) i l
unfolding first_of first_broken place
first_place cs i [] = refl
first_place cs i (m ∷ l) = go (breaks cs m) refl (first_place cs (suc i) l)
  where
    go : (b : Bool) → breaks cs m ≡ b → first_of (first_broken (suc i) cs l) ≡ place (breaks cs) (suc i) l
        → first_of (cond b (some i) (first_broken (suc i) cs l)) ≡ place (breaks cs) i (m ∷ l)
    go true q h =
        let k : ltb 0 (suc (length l)) ≡ true = lt-ltb 0 (suc (length l)) (omega arith) in
        let z : i + 0 ≡ i = omega arith in
        rw (q, k, z)
    go false q h = h ∙ sym (place_next (breaks cs) i m l q)

pub place_first : (cs : List (Member GeneralName)) (l : List GeneralName)
    → cond (ltb (position_or_len (breaks cs) l) (length l)) (Some (position_or_len (breaks cs) l)) None ≡ first_of (first_broken 0 cs l)
unfolding place
place_first cs l =
    let z : 0 + position_or_len (breaks cs) l ≡ position_or_len (breaks cs) l = omega arith in
    let k : first_of (first_broken 0 cs l) ≡ cond (ltb (position_or_len (breaks cs) l) (length l)) (Some (0 + position_or_len (breaks cs) l)) None = first_place cs 0 l in
    sym (rw z at k)

-- without subtrees of either form no entry does
module _ (w : Restrictions) (s_free : restricting w.srv.sides ≡ false) (d_free : restricting w.dns.sides ≡ false) where
  kept : (m : GeneralName) → breaks (names_of read_constraints w.srv.constraints.now) m ≡ false
  unfolding breaks
  kept m =
      let s = breaks_free w.srv m false (sym s_free) refl in
      let d = breaks_free w.dns m false (sym d_free) refl in
      rw (← (rw w.of_srv at s), ← (rw (w.of_dns, w.of_one) at d)) refl

  none_broken : (i : ℕ) (l : List GeneralName) → first_broken i (names_of read_constraints w.srv.constraints.now) l ≡ none
  unfolding first_broken
  none_broken i [] = refl
  none_broken i (m ∷ l) = rw (kept m) (none_broken (suc i) l)

pub unrestricted : (w : Restrictions) (any : Bool) → any ≡ restricting w.srv.sides || restricting w.dns.sides → any ≡ false
    → (l : List GeneralName) → None ≡ first_of (first_broken 0 (names_of read_constraints w.srv.constraints.now) l)
unfolding first_of
unrestricted w any any_is e l = both (restricting w.srv.sides) (restricting w.dns.sides) refl refl
  where
    both : (a b : Bool) → restricting w.srv.sides ≡ a → restricting w.dns.sides ≡ b → None ≡ first_of (first_broken 0 (names_of read_constraints w.srv.constraints.now) l)
    both false false p q = rw (none_broken w p q 0 l)
    both true b p q = clash (rw p at any_is) e
    both false true p q = clash (rw (p, q) at any_is) e

-- ---- a whole SAN

module _ (s : List ℕ) (valid : validated read_san s ≡ true) where
  module _ (e : Answer) (e_is : e ≡ element_at s 0 (length s)) (at : ℕ) where
    pub start_ok : (x : Element) → e ≡ Ok x → at ≡ x.start → at ≡ content_start s
    start_ok x found h = h ∙ start_found s e e_is x found

    pub start_err : (why : ElementError) → e ≡ Err why → at ≡ 0 → at ≡ content_start s
    start_err why refused h = h ∙ start_none s e e_is (rw refused)

  pub san_run : (at : ℕ) → at ≡ content_start s → Run read_name s at (length s)
  san_run at h = rw h (san_filled s valid).elements

  pub san_left : (t : Entries) → t.bytes.now ≡ s → t.at ≡ content_start s → t.end ≡ length s → entries_left t ≡ names_of read_san s
  unfolding entries_left
  san_left t same h k = rw (same, h, k) (san_filled s valid).list
