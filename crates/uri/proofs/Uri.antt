-- URI-IDs by the place of the first colon, and what matches a reference whose scheme and domain are good.
use Prim.Native.Nat.{ℕ, ◌+◌, ◌-◌, ◌<◌, ◌≤◌}
use mathlib.Core.Path.{◌≡◌, refl, sym, ap, ◌∙◌}
use mathlib.Core.Bool.{Bool, true, false, ◌&&◌, and-true, and-false, and_assoc, and_comm}
use mathlib.Core.List.{List, [], ◌∷◌}
use native.Mathlib.Omega.{arith}
use lib.ListN.{length, get_or, take, drop, length-drop}
use lib.Seq.{length-take-le}
use lib.Dec.{eqb, ltb}
use borrow.Author.Tests.{eq-eqb, ne_eqb, eqb-true, ltb-true, ltb-false}
use Rattle.octets.proofs.Cases.{by_cases, and_left, and_right, fails, clash}
use Rattle.octets.proofs.Compare.{text_length_lem}
use Rattle.octets.proofs.Cut.{drop_after}
use Rattle.octets.proofs.Place.{part_before, part_after, none_after, passes_at, before_at}
use Rattle.rules.specs.Bytes.{all, begins, before, after}
use Rattle.rules.specs.Names.{is, colon, slash, digit, same_text, domain, scheme, scheme_of, authority_of, host_and_port, host_of, port_of, uri_id, uri_matches}
use Rattle.names.proofs.Free.{scheme_no_colon}
use Rattle.names.proofs.Labels.{same_domain_lem}
use Rattle.names.proofs.Folded.{same_schemes}
use Rattle.uri.specs.Parts.{host_port, hosted, host_matches}
use Rattle.uri.proofs.Authority.{host_within}
use Rattle.uri.proofs.Host.{host_short, is_domain}

-- the two bytes
abbrev slashes : List ℕ
slashes = slash ∷ slash ∷ []

-- ---- "//"

-- too short
pub slashed_short : (s : List ℕ) → length s < 2 → begins slashes s ≡ false
unfolding begins
slashed_short [] h = refl
slashed_short (x ∷ []) h = and-false (eqb slash x)
slashed_short (x ∷ y ∷ s) h = absurd (omega arith)

-- another first or second byte
pub slashed_first : (s : List ℕ) → 2 ≤ length s → (get_or s 0 0 ≡ 0x2F → ⊥) → begins slashes s ≡ false
unfolding begins
slashed_first [] h n = absurd (omega arith)
slashed_first (x ∷ s) h n = rw (ne_eqb slash x (λ e. n (sym e)))

pub slashed_second : (s : List ℕ) → 2 ≤ length s → (get_or s 1 0 ≡ 0x2F → ⊥) → begins slashes s ≡ false
unfolding begins
slashed_second [] h n = absurd (omega arith)
slashed_second (x ∷ []) h n = absurd (omega arith)
slashed_second (x ∷ y ∷ s) h n = simp (ne_eqb slash y (λ e. n (sym e)), and-false)

-- both
pub slashed_here : (s : List ℕ) → 2 ≤ length s → get_or s 0 0 ≡ 0x2F → get_or s 1 0 ≡ 0x2F → begins slashes s ≡ true
unfolding begins
slashed_here [] h e f = absurd (omega arith)
slashed_here (x ∷ []) h e f = absurd (omega arith)
slashed_here (x ∷ y ∷ s) h e f = simp (eq-eqb slash x (sym e), eq-eqb slash y (sym f))

-- ---- what a URI-ID is, by what follows the colon

-- the tests of a match in the order in which the code makes them
shuffle : (p q r t u : Bool) → p && q && r && t && u ≡ q && (r && u) && (p && t)
shuffle true true true t u = and_comm t u
shuffle true true false t u = refl
shuffle true false r t u = refl
shuffle false true true t u = sym (and-false u)
shuffle false true false t u = refl
shuffle false false r t u = refl

module _ (s : List ℕ) where
  -- what follows the colon, and of that what follows "//"
  uri_is : uri_id s ≡ scheme (scheme_of s) && begins slashes (after (is colon) s) && hosted (host_port (drop 2 (after (is colon) s)))
  unfolding uri_id hosted host_port host_of port_of host_and_port authority_of
  uri_is = and_assoc (scheme (scheme_of s) && begins slashes (after (is colon) s)) (domain (host_of s)) (all digit (port_of s))

  -- the same of a match
  match_is : (a d : List ℕ)
      → uri_matches a d s
      ≡ begins slashes (after (is colon) s) && host_matches d (host_port (drop 2 (after (is colon) s))) && (scheme (scheme_of s) && same_text (scheme_of s) a)
  unfolding uri_matches host_matches host_of host_and_port host_port authority_of
  match_is a d =
      rw (uri_is, same_domain_lem)
      (shuffle (scheme (scheme_of s)) (begins slashes (after (is colon) s)) (hosted (host_and_port s)) (same_text (scheme_of s) a) (same_text (host_of s) d))

module _ (s : List ℕ) (n : ℕ) (at : n ≡ length (before (is colon) s)) where
  -- what follows the colon
  tail_is : drop (n + 1) s ≡ after (is colon) s
  tail_is = part_after (is colon) s n at

  -- what stands before it
  scheme_is : take n s ≡ scheme_of s
  unfolding scheme_of
  scheme_is = part_before (is colon) s n at

  -- no colon
  pub uri_no_colon : length s ≤ n → false ≡ uri_id s
  unfolding begins
  uri_no_colon h = sym (uri_is s ∙ rw (none_after (is colon) s n at h, and-false))

  -- no scheme before it
  pub uri_no_scheme : scheme (take n s) ≡ false → false ≡ uri_id s
  uri_no_scheme e = sym (uri_is s ∙ rw (← scheme_is, e))

  -- no "//" after it
  pub uri_no_slashes : begins slashes (drop (n + 1) s) ≡ false → uri_id s ≡ false
  uri_no_slashes e = uri_is s ∙ rw (← tail_is, e, and-false)

  -- both, and the host and the port decide
  pub uri_hosted : scheme (take n s) ≡ true → begins slashes (drop (n + 1) s) ≡ true → uri_id s ≡ hosted (host_port (drop 2 (drop (n + 1) s)))
  uri_hosted e f = uri_is s ∙ rw (← scheme_is, e, ← tail_is, f)

-- ---- compared first: the reference's scheme leaves one place for the colon

module _ (a d s : List ℕ) where
  module _ (e : uri_matches a d s ≡ true) where
    -- what a match tells
    parts : begins slashes (after (is colon) s) && host_matches d (host_port (drop 2 (after (is colon) s))) && (scheme (scheme_of s) && same_text (scheme_of s) a) ≡ true
    parts = sym (match_is s a d) ∙ e

    -- "//" follows the colon
    is_slashed : begins slashes (after (is colon) s) ≡ true
    is_slashed = let p = parts in search (and_left, and_right)

    -- the host matches
    is_host : host_matches d (host_port (drop 2 (after (is colon) s))) ≡ true
    is_host = let p = parts in search (and_left, and_right)

    -- the scheme is one
    is_scheme : scheme (scheme_of s) ≡ true
    is_scheme = let p = parts in search (and_left, and_right)

    -- and the same
    scheme_same : same_text (scheme_of s) a ≡ true
    scheme_same = let p = parts in search (and_left, and_right)

    -- the first colon stands past as many bytes as the scheme of the reference has
    place : length a ≡ length (before (is colon) s)
    unfolding scheme_of
    place = sym (text_length_lem _ _ scheme_same)

    -- and there is one
    has_colon : length a < length s
    unfolding begins
    has_colon =
        by_cases (ltb (length a) (length s)) (λ k. ltb-true (length a) (length s) k)
        (λ k. clash is_slashed (ap (begins slashes) (none_after (is colon) s (length a) place (ltb-false (length a) (length s) k))))

  -- too short
  pub match_short : length s ≤ length a → false ≡ uri_matches a d s
  match_short h = fails _ (λ e. omega (arith, has_colon e))

  -- too short for the domain too
  pub match_less : length s - length a ≤ length d + 2 → false ≡ uri_matches a d s
  match_less h =
      fails _ (λ e.
      let tail = after (is colon) s in
      let tail_long : length tail ≡ length s - (length a + 1) = rw (place e) (ap length (sym (drop_after (is colon) s)) ∙ length-drop _ s) in
      let two : 2 ≤ length tail =
      by_cases (ltb (length tail) 2) (λ k. clash (is_slashed e) (slashed_short tail (ltb-true _ 2 k))) (λ k. ltb-false _ 2 k) in
      let host : length d ≤ length (host_port (drop 2 tail)) =
      by_cases (ltb (length (host_port (drop 2 tail))) (length d))
      (λ k. clash (is_host e) (sym (host_short d (host_port (drop 2 tail)) (ltb-true _ (length d) k)))) (λ k. ltb-false _ (length d) k) in
      omega (arith, host_within (drop 2 tail), length-drop 2 tail, has_colon e))

  -- no colon there
  pub match_no_colon : (get_or s (length a) 0 ≡ 0x3A → ⊥) → false ≡ uri_matches a d s
  match_no_colon n = fails _ (λ e. n (eqb-true _ _ (passes_at (is colon) s (length a) (place e) (has_colon e))))

  -- another scheme
  pub match_other_scheme : (r : Bool) → r ≡ same_text (take (length a) s) a → r ≡ false → false ≡ uri_matches a d s
  match_other_scheme r f h =
      fails _ (λ e. clash (scheme_same e) (rw (← scheme_is s (length a) (place e)) (sym f ∙ h)))

  -- what follows the place is what follows the colon
  tail_after : uri_matches a d s ≡ true → drop (length a + 1) s ≡ after (is colon) s
  tail_after e = tail_is s (length a) (place e)

  -- no "//"
  pub match_no_slashes : begins slashes (drop (length a + 1) s) ≡ false → uri_matches a d s ≡ false
  match_no_slashes h = sym (fails _ (λ e. clash (is_slashed e) (rw (← tail_after e) h)))

  -- the same scheme and "//": the host decides
  pub match_host : scheme a ≡ true → same_text (take (length a) s) a ≡ true → length a < length s → get_or s (length a) 0 ≡ 0x3A
      → begins slashes (drop (length a + 1) s) ≡ true → uri_matches a d s ≡ host_matches d (host_port (drop 2 (drop (length a + 1) s)))
  match_host good same l c m =
      let known : scheme (take (length a) s) ≡ true = same_schemes (take (length a) s) a same ∙ good in
      let b : before (is colon) s ≡ take (length a) s =
      before_at (is colon) s (length a) l (scheme_no_colon (take (length a) s) known) (eq-eqb _ _ c) in
      let at : length a ≡ length (before (is colon) s) = sym (ap length b ∙ length-take-le (length a) s (omega arith)) in
      match_is s a d
      ∙ rw (← scheme_is s (length a) at, ← tail_is s (length a) at, m, known, same)
      (and-true (host_matches d (host_port (drop 2 (drop (length a + 1) s)))))

  -- a reference that is not good
  pub match_no_scheme : (r : Bool) → r ≡ scheme a → r ≡ false → false ≡ uri_matches a d s
  match_no_scheme r f h =
      fails _ (λ e. clash (sym (same_schemes (scheme_of s) a (scheme_same e)) ∙ is_scheme e) (sym f ∙ h))

  pub match_no_domain : (r : Bool) → r ≡ domain d → r ≡ false → false ≡ uri_matches a d s
  match_no_domain r f h =
      fails _ (λ e. clash (is_domain d (host_port (drop 2 (after (is colon) s))) (is_host e)) (sym f ∙ h))
