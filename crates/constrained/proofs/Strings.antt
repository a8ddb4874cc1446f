-- The first breach, one issuer's string at a time.
use Prim.Native.Nat.{ℕ, zero, suc, ◌+◌, ◌<◌, ◌≤◌}
use mathlib.Core.Path.{◌≡◌, refl, sym, ap, ◌∙◌}
use mathlib.Core.Bool.{Bool, true, false, not}
use mathlib.Core.List.{List, [], ◌∷◌, map}
use mathlib.Core.Option.{Option, none, some}
use native.Mathlib.Omega.{arith}
use native.Mathlib.Numerals.{add-one}
use lib.ListN.{length, drop, get_or, drop_of_length-le}
use lib.Seq.{drop-cons}
use lib.Dec.{leb}
use borrow.Author.Tests.{leb-true, not-true, not-false}
use Rattle.octets.proofs.Cases.{and_left, and_right}
use Rattle.rules.specs.Bytes.{all}
use Rattle.rules.specs.Seen.{lengths_fit}
use Rattle.rules.specs.Matching.{first_broken, breach_or, first_breach}
use Rattle.rules.specs.declared.Breach.{Breach}
use Rattle.reading.specs.Strings.{read_san, read_constraints}
use Rattle.der.specs.Runs.{validated, names_of}
use Rattle.issuers.specs.Strings.{strings_in, string_at, fit_count, wrong_none}
use Rattle.constrained.specs.Breaches.{first_of, breach_of}
use Rattle.std.specs.Prelude as std
use Rattle.std.specs.Prelude.{Some, None, IfSome}

-- a test that all pass, at one of them
all_at : (p : List ℕ → Bool) (l : List (List ℕ)) (k : ℕ) → k < length l → all p l ≡ true → p (get_or l k []) ≡ true
all_at p [] k h e = absurd (omega arith)
all_at p (x ∷ l) zero h e = and_left (p x) (all p l) e
all_at p (x ∷ l) (suc k) h e = all_at p l k (omega arith) (and_right (p x) (all p l) e)

-- what is left of the strings, which count from k, finds what all find
unfoldable pub BreachLeft : List ℕ → List ℕ → List ℕ → ℕ → Type 0
BreachLeft san lengths bytes k =
    first_breach k (map (names_of read_constraints) (drop k (strings_in lengths bytes))) (names_of read_san san)
    ≡ first_breach 0 (map (names_of read_constraints) (strings_in lengths bytes)) (names_of read_san san)

module _ (san lengths bytes : List ℕ) where
  abbrev answer : std.Option Breach
  answer = breach_of (first_breach 0 (map (names_of read_constraints) (strings_in lengths bytes)) (names_of read_san san))

  pub breach_begin : BreachLeft san lengths bytes 0
  unfolding BreachLeft
  breach_begin = refl

  module _ (fit : Bool) (fit_is : fit ≡ lengths_fit lengths (length bytes)) where
    -- the lengths are wrong: there is no string
    pub breach_wrong : not fit ≡ true → None ≡ answer
    unfolding breach_of first_breach
    breach_wrong e = rw (wrong_none lengths bytes (sym fit_is ∙ not-true fit e))

    module _ (e : not fit ≡ false) where
      fits : lengths_fit lengths (length bytes) ≡ true
      fits = sym fit_is ∙ not-false fit e

      few : length lengths ≤ 8
      unfolding lengths_fit
      few = leb-true (length lengths) 8 (and_left (leb (length lengths) 8) _ fits)

      count : length (strings_in lengths bytes) ≡ length lengths
      count = fit_count lengths bytes fits

      module _ (k : ℕ) (inv : BreachLeft san lengths bytes k) where
        pub breach_end : length lengths ≤ k → None ≡ answer
        unfolding BreachLeft first_breach breach_of
        breach_end h = ap breach_of (rw (drop_of_length-le (strings_in lengths bytes) {i = k} (rw count h)) at inv)

        module _ (h : k < length lengths) (s : List ℕ) (s_is : s ≡ string_at lengths bytes k) where
          pub string_valid : all (validated read_constraints) (strings_in lengths bytes) ≡ true → validated read_constraints s ≡ true
          unfolding string_at
          string_valid a = rw s_is (all_at (validated read_constraints) (strings_in lengths bytes) k (rw count h) a)

          module _ (f : std.Option ℕ) (f_is : f ≡ first_of (first_broken 0 (names_of read_constraints s) (names_of read_san san))) where
            split : breach_or k (first_broken 0 (names_of read_constraints s) (names_of read_san san))
                (first_breach (suc k) (map (names_of read_constraints) (drop (suc k) (strings_in lengths bytes))) (names_of read_san san))
                ≡ first_breach 0 (map (names_of read_constraints) (strings_in lengths bytes)) (names_of read_san san)
            unfolding BreachLeft first_breach string_at
            split = rw (drop-cons (strings_in lengths bytes) k [] (rw count h), ← s_is) at inv

            found : (i : ℕ) (o : Option ℕ) → f ≡ first_of o → f ≡ Some i → o ≡ some i
            unfolding first_of
            found i none p q = let e : ◌≡◌ {A = std.Option ℕ} None (Some i) = sym p ∙ q in let z : ◌≡◌ {A = ℕ} 0 1 = cc in absurd (omega arith)
            found i (some j) p q =
                let e : ◌≡◌ {A = std.Option ℕ} (Some j) (Some i) = sym p ∙ q in
                let y : j ≡ i = cc in
                ap {B = Option ℕ} some y

            missed : (o : Option ℕ) → f ≡ first_of o → f ≡ None → o ≡ none
            unfolding first_of
            missed none p q = refl
            missed (some j) p q = let e : ◌≡◌ {A = std.Option ℕ} (Some j) None = sym p ∙ q in let z : ◌≡◌ {A = ℕ} 0 1 = cc in absurd (omega arith)

            pub breach_here : (i : ℕ) → f ≡ Some i → Some (record { issuer = k; presented = i }) ≡ answer
            unfolding breach_of
            breach_here i q = ap breach_of (rw (found i (first_broken 0 (names_of read_constraints s) (names_of read_san san)) f_is q) at split)

            pub breach_next : f ≡ None → BreachLeft san lengths bytes (k + 1)
            unfolding BreachLeft
            breach_next q = rw add-one (rw (missed (first_broken 0 (names_of read_constraints s) (names_of read_san san)) f_is q) at split)

        -- an issuer's index is small
        pub few_issuers : k < length lengths → k ≤ 8
        few_issuers h = omega (arith, few)

pub ruleset laws = (
  breach_begin,
  breach_wrong,
  breach_end,
  string_valid,
  breach_here,
  breach_next,
  few_issuers,
)
