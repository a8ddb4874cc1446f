-- The laws that the functions' proofs search: one for each return and each loop step.
use Prim.Native.Nat.{ℕ, zero, suc, ◌+◌, ◌-◌, ◌*◌, ◌/◌, ◌%◌, ◌<◌, ◌≤◌}
use mathlib.Core.Path.{◌≡◌, refl, sym, ◌∙◌}
use mathlib.Core.Bool.{Bool, true, false}
use mathlib.Core.List.{List, [], ◌∷◌, ◌++◌, append_assoc, append-nil}
use mathlib.Core.Option.{none, some}
use native.Mathlib.Omega.{arith}
use native.Mathlib.Numerals.{add-one}
use lib.ListN.{length, take, drop, get_or, set}
use lib.Seq.{take-suc-set}
use lib.Dec.{eqb}
use borrow.Author.Tests.{le-leb, lt-leb}
use Rattle.std.specs.List as list
use Rattle.std.proofs.lemmas.List.Sums.{sum_by_from}
use Rattle.rules.specs.Bytes.{cut, sum}
use Rattle.rules.specs.Numbers.{most_issuers}
use Rattle.rules.specs.Seen.{lengths_fit, strings_of, strings_by, lengths_from_c}
use Rattle.rules.proofs.Cases.{by_cases}
use Rattle.issuers.specs.Strings.{strings_in, string_at, start_of, start_fits, fit_sum, cut_at, fit_strings, fit_cut, fit_count, wrong_strings, wrong_none}
use Rattle.issuers.specs.FromC.{pairs, from_even, from_odd, pairs_length}

-- ---- lengths_fit

module _ (lengths : List ℕ) (size : ℕ) where
  pub fit_many : most_issuers < length lengths → false ≡ lengths_fit lengths size
  unfolding lengths_fit
  fit_many h = rw (lt-leb (length lengths) most_issuers h)

  pub fit_few : length lengths ≤ most_issuers → (r : Bool) → r ≡ eqb (sum lengths) size → r ≡ lengths_fit lengths size
  unfolding lengths_fit
  fit_few h r e = e ∙ rw (le-leb (length lengths) most_issuers h)

-- ---- string_of

pub sum_std : (ns : List ℕ) → list.sum ns ≡ sum ns
unfolding sum
sum_std [] = refl
sum_std (n ∷ ns) =
    let h = sum_std ns in
    let e : list.sum (n ∷ ns) ≡ 0 + n + list.sum ns = sum_by_from (λ (x : ℕ). x) (0 + n) ns in
    omega arith

module _ (lengths bytes : List ℕ) (k : ℕ) where
  pub of_wrong : lengths_fit lengths (length bytes) ≡ false → [] ≡ string_at lengths bytes k
  unfolding string_at
  of_wrong e = rw (wrong_none lengths bytes e)

  past_end : (l : List (List ℕ)) (k : ℕ) → length l ≤ k → [] ≡ get_or l k []
  past_end [] k h = refl
  past_end (a ∷ l) zero h = absurd (omega arith)
  past_end (a ∷ l) (suc k) h = past_end l k (omega arith)

  pub of_past : length lengths ≤ k → [] ≡ string_at lengths bytes k
  unfolding string_at
  of_past h =
      by_cases (lengths_fit lengths (length bytes))
      (λ e. past_end (strings_in lengths bytes) k (rw (fit_count lengths bytes e) h))
      (λ e. of_wrong e)

  module _ (fits : lengths_fit lengths (length bytes) ≡ true) (h : k < length lengths) (start : ℕ) (start_is : start ≡ list.sum (take k lengths)) where
    starts : start ≡ start_of lengths k
    unfolding start_of
    starts = start_is ∙ sum_std (take k lengths)

    pub of_fits : start + get_or lengths k 0 ≤ length bytes
    of_fits = omega (arith, start_fits lengths k h, fit_sum lengths (length bytes) fits, starts)

    pub of_place : take (start + get_or lengths k 0 - start) (drop start bytes) ≡ string_at lengths bytes k
    unfolding string_at
    of_place =
        let n : start + get_or lengths k 0 - start ≡ get_or lengths k 0 = omega arith in
        rw (fit_cut lengths bytes fits, cut_at lengths bytes k h, n, starts)

-- ---- the strings, one by one

module _ (ns b : List ℕ) where
  pub cut_none : length ns ≡ 0 → cut ns b ≡ []
  unfolding cut
  cut_none e = go ns e
    where
      go : (l : List ℕ) → length l ≡ 0 → cut l b ≡ []
      go [] h = refl
      go (n ∷ l) h = absurd (omega arith)

  module _ (n : ℕ) (ms : List ℕ) (e : ns ≡ n ∷ ms) where
    pub first_within : sum ns ≡ length b → n ≤ length b
    unfolding sum
    first_within w = let s : n + sum ms ≡ length b = rw e at w in omega arith

    pub others_whole : (t : List ℕ) → sum ns ≡ length b → length t + n ≡ length b → sum ms ≡ length t
    unfolding sum
    others_whole t w h = let s : n + sum ms ≡ length b = rw e at w in omega arith

    pub cut_next : (s t : List ℕ) → s ≡ take n b → t ≡ drop n b → cut ns b ≡ s ∷ cut ms t
    unfolding cut
    cut_next s t f g = rw (e, f, g)

  module _ (f : Bool) (f_is : f ≡ lengths_fit ns (length b)) where
    pub right_whole : f ≡ true → sum ns ≡ length b
    right_whole e = fit_sum ns (length b) (sym f_is ∙ e)

    pub right_strings : f ≡ true → strings_of ns b ≡ some (cut ns b)
    right_strings e = fit_strings ns b (sym f_is ∙ e)

    pub wrong_strings_lem : f ≡ false → strings_of ns b ≡ none
    wrong_strings_lem e = wrong_strings ns b (sym f_is ∙ e)

-- ---- the pairs of C

-- the pairs that are read stand in the array, the others are left
unfoldable pub PairsLeft : List ℕ → List ℕ → List ℕ → ℕ → Type 0
PairsLeft b values rest i = take i values ++ pairs rest ≡ pairs b

pub pairs_begin : (b values : List ℕ) → PairsLeft b values b 0
unfolding PairsLeft
pairs_begin b values = refl

module _ (b values : List ℕ) (i : ℕ) where
  pub pairs_next : (rest pair others : List ℕ) → PairsLeft b values rest i → rest ≡ pair ++ others → length pair ≡ 2 → i < length values
      → PairsLeft b (set values i (get_or pair 0 0 * 256 + get_or pair 1 0)) others (i + 1)
  unfolding PairsLeft pairs
  pairs_next rest [] others inv e n h = absurd (omega arith)
  pairs_next rest (high ∷ []) others inv e n h = absurd (omega arith)
  pairs_next rest (high ∷ low ∷ []) others inv e n h =
      let q = rw e at inv in
      rw (add-one, take-suc-set values i (high * 256 + low) h, append_assoc) q
  pairs_next rest (high ∷ low ∷ x ∷ pair) others inv e n h = absurd (omega arith)

  pub pairs_end : (rest : List ℕ) → PairsLeft b values rest i → length rest < 2 → take i values ≡ pairs b
  unfolding PairsLeft pairs
  pairs_end [] inv h = sym (append-nil (take i values)) ∙ inv
  pairs_end (x ∷ []) inv h = sym (append-nil (take i values)) ∙ inv
  pairs_end (x ∷ y ∷ rest) inv h = absurd (omega arith)

-- ---- lengths_from_c

module _ (b : List ℕ) where
  pub c_odd : (length b % 2 ≡ 0 → ⊥) → (bytes : List ℕ) → strings_by (lengths_from_c b) bytes ≡ none
  unfolding strings_by
  c_odd n bytes = rw (from_odd b (omega arith))

  -- more than eight are no lengths for any bytes
  pub c_many : length b % 2 ≡ 0 → most_issuers < length b / 2 → (bytes : List ℕ) → strings_by (lengths_from_c b) bytes ≡ none
  unfolding strings_by strings_of lengths_fit
  c_many e h bytes = rw (from_even b e, lt-leb (length (pairs b)) most_issuers (omega (arith, pairs_length b)))

  pub c_read : length b % 2 ≡ 0 → (values : List ℕ) (count : ℕ) → take count values ≡ pairs b → lengths_from_c b ≡ some (take count values)
  c_read e values count h = rw (from_even b e, h)

-- ---- nine zeros, in the place of none

-- they are no lengths for any bytes
pub from_none : (b : List ℕ) → ((bytes : List ℕ) → strings_by (lengths_from_c b) bytes ≡ none) → (bytes : List ℕ)
    → strings_of (0 ∷ 0 ∷ 0 ∷ 0 ∷ 0 ∷ 0 ∷ 0 ∷ 0 ∷ 0 ∷ []) bytes ≡ strings_by (lengths_from_c b) bytes
unfolding strings_of lengths_fit
from_none b h bytes = sym (h bytes)

pub from_some : (b l : List ℕ) → lengths_from_c b ≡ some l → (bytes : List ℕ) → strings_of l bytes ≡ strings_by (lengths_from_c b) bytes
unfolding strings_by
from_some b l e bytes = rw e

pub ruleset from_c = (from_none, from_some)

pub ruleset laws = (fit_many, fit_few, of_wrong, of_past, c_odd, c_many, pairs_begin, first_within, others_whole, right_whole, right_strings, wrong_strings_lem)
