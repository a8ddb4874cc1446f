-- A domain label by label, and a scheme: one law for each return and each step of a loop.
use Prim.Native.Nat.{ℕ, ◌+◌, ◌-◌, ◌<◌, ◌≤◌}
use mathlib.Core.Path.{◌≡◌, refl, sym, ap, ◌∙◌}
use mathlib.Core.List.{List, [], ◌∷◌}
use mathlib.Core.Bool.{Bool, true, false, not, and-false}
use native.Mathlib.Omega.{arith}
use lib.ListN.{length, get_or, take, drop, length-drop}
use lib.Seq.{drop-drop, take-length}
use lib.Dec.{eqb}
use borrow.Author.Tests.{eqb-true, le-leb, lt-leb}
use Rattle.std.specs.List.{list_all}
use Rattle.std.proofs.lemmas.List.{get_or-drop}
use Rattle.words.proofs.Every.{all_from_list}
use Rattle.octets.proofs.Parts.{rest_is}
use Rattle.rules.proofs.Cases.{clash}
use Rattle.rules.specs.Bytes.{all, before}
use Rattle.rules.specs.Names.{letter, digit, domain, scheme_byte, scheme}
use Rattle.names.specs.Label.{outside, bounded}
use Rattle.names.proofs.Runs

-- ---- domain

-- s is short enough, and so is what is left of it, which is a domain just where s is
unfoldable pub DomainLeft : List ℕ → List ℕ → Type 0
DomainLeft s rest = (length s ≤ 253) × (length rest ≤ 253) × (domain rest ≡ domain s)

module _ (s : List ℕ) where
  pub domain_long : 253 < length s → false ≡ domain s
  unfolding domain
  domain_long h = simp (lt-leb (length s) 253 h)

  pub domain_begin : length s ≤ 253 → DomainLeft s s
  unfolding DomainLeft
  domain_begin h = (h, h, refl)

  -- what is left begins with a run, which the code cuts off
  module _ (rest : List ℕ) (inv : DomainLeft s rest) (run : ℕ) (is_run : (run ≡ length (before outside rest)) × (run ≤ length rest))
      (label past : List ℕ) (is_label : label ≡ take run rest) (is_past : past ≡ drop run rest) where
    past_long : length past ≡ length rest - run
    past_long = rw is_past (length-drop run rest)

    first_past : get_or past 0 0 ≡ get_or rest run 0
    first_past =
        let z : run + 0 ≡ run = omega arith in
        rw is_past (get_or-drop run rest 0 0 ∙ rw z refl)

    module _ (fits : Bool) (is_fits : fits ≡ bounded 63 label) where
      run_fits : fits ≡ bounded 63 (take run rest)
      run_fits = rw is_label at is_fits

      pub label_bad : fits ≡ false → false ≡ domain s
      unfolding DomainLeft
      label_bad e = Runs.run_bad rest run is_run.0 fits run_fits e ∙ inv.2

      pub label_last : fits ≡ true → length past < 1 → (digits : Bool) → digits ≡ all digit label → not digits ≡ domain s
      unfolding DomainLeft
      label_last e h digits is_digits =
          let z : run ≡ length rest = omega (arith, past_long, is_run.1) in
          let whole : label ≡ rest = is_label ∙ rw z (take-length rest) in
          ap not (rw whole at is_digits) ∙ sym (Runs.run_last rest run is_run.0 fits run_fits e z) ∙ inv.2

      pub label_next : fits ≡ true → 1 ≤ length past → get_or past 0 0 ≡ 0x2E → DomainLeft s (take (length past - 1) (drop 1 past))
      unfolding DomainLeft
      label_next e h d =
          let next = Runs.run_next rest run is_run.0 fits run_fits e (omega (arith, past_long)) (sym first_past ∙ d) inv.1 in
          let z : take (length past - 1) (drop 1 past) ≡ drop (run + 1) rest = rest_is past 1 ∙ rw is_past (drop-drop 1 run rest) in
          rw z (inv.0, omega (arith, length-drop (run + 1) rest, inv.1), sym next ∙ inv.2)

    pub label_stops : 1 ≤ length past → (get_or past 0 0 ≡ 0x2E → ⊥) → false ≡ domain s
    unfolding DomainLeft
    label_stops h n = Runs.run_stops rest run is_run.0 (omega (arith, past_long)) (λ e. n (first_past ∙ e)) ∙ inv.2

-- ---- scheme

-- the first letter is a byte of a scheme too
letter_scheme : (b : ℕ) → letter b ≡ true → scheme_byte b ≡ true
unfolding scheme_byte
letter_scheme b e = simp e

none_is : (s : List ℕ) → length s ≡ 0 → s ≡ []
none_is [] e = refl
none_is (x ∷ s) e = absurd (omega arith)

module _ (s : List ℕ) where
  pub scheme_empty : eqb (length s) 0 ≡ true → false ≡ scheme s
  unfolding scheme letter
  scheme_empty e = rw (none_is s (eqb-true (length s) 0 e))

  pub scheme_long : 63 < length s → false ≡ scheme s
  unfolding scheme
  scheme_long h = simp (lt-leb (length s) 63 h)

  module _ (first : Bool) (is_first : first ≡ letter (get_or s 0 0)) where
    pub scheme_first : first ≡ false → first ≡ scheme s
    unfolding scheme
    scheme_first e = simp (← is_first, e, and-false)

pub scheme_rest : (s : List ℕ) → eqb (length s) 0 ≡ false → length s ≤ 63 → letter (get_or s 0 0) ≡ true → (r : Bool)
    → r ≡ list_all scheme_byte (take (length s - 1) (drop 1 s)) → r ≡ scheme s
unfolding scheme
scheme_rest [] n h e r f = clash refl n
scheme_rest (b ∷ s) n h e r f =
    let g : r ≡ all scheme_byte (take (length (b ∷ s) - 1) (drop 1 (b ∷ s))) = all_from_list scheme_byte _ r f in
    rw (rest_is (b ∷ s) 1) at g ∙ rw (le-leb (length (b ∷ s)) 63 h, e, letter_scheme b e)

pub ruleset label_laws = (domain_long, domain_begin, label_bad, label_last, label_next, label_stops)

pub ruleset scheme_laws = (scheme_empty, scheme_long, scheme_first)
