-- The constraint strings of all issuers, one by one: where each starts, how long it is, and that it is the string that the rules cut.
use Rattle.std.specs.Prelude.{ℕ, zero, suc, ◌+◌, ◌<◌, ◌≤◌, ◌≡◌, refl, true, false, List, [], ◌∷◌, ◌++◌, map, length, take, drop, get_or, leb, eqb}
use Rattle.std.proofs.Common.{sym, ap, ◌∙◌, arith, take-append-drop, drop-drop, take-suc, eqb-true}
use Rattle.std.proofs.Math.Bool.{and-eq-true_iff}
use Rattle.std.proofs.Math.Option
use Rattle.std.proofs.Math.Option.{none, some}
use Rattle.rules.specs.Bytes.{cut, sum}
use Rattle.rules.specs.Numbers.{most_issuers}
use Rattle.rules.specs.Seen.{lengths_fit, strings_of}
use Rattle.rules.proofs.Lengths.{cut_sizes}

-- the strings; none where the lengths are wrong
unfoldable pub strings_in : List ℕ → List ℕ → List (List ℕ)
strings_in lengths bytes = Option.get_or (strings_of lengths bytes) []

-- string k; the empty text where there are no more or the lengths are wrong
unfoldable pub string_at : List ℕ → List ℕ → ℕ → List ℕ
string_at lengths bytes k = get_or (strings_in lengths bytes) k []

-- where string k starts
unfoldable pub start_of : List ℕ → ℕ → ℕ
start_of lengths k = sum (take k lengths)

-- ---- sums

sum_append : (a b : List ℕ) → sum (a ++ b) ≡ sum a + sum b
unfolding sum
sum_append [] b = omega arith
sum_append (n ∷ a) b = let h = sum_append a b in omega arith

-- the lengths before k and those from k on
pub sum_split : (lengths : List ℕ) (k : ℕ) → sum lengths ≡ start_of lengths k + sum (drop k lengths)
unfolding start_of
sum_split lengths k = ap sum (sym (take-append-drop k lengths)) ∙ sum_append (take k lengths) (drop k lengths)

-- the next string starts where string k ends
pub start_next : (lengths : List ℕ) (k : ℕ) → k < length lengths → start_of lengths (suc k) ≡ start_of lengths k + get_or lengths k 0
unfolding start_of sum
start_next lengths k h = ap sum (take-suc lengths k 0 h) ∙ sum_append (take k lengths) (get_or lengths k 0 ∷ []) ∙ omega arith

-- no string ends past the sum
pub start_fits : (lengths : List ℕ) (k : ℕ) → k < length lengths → start_of lengths k + get_or lengths k 0 ≤ sum lengths
start_fits lengths k h = omega (arith, sum_split lengths (suc k), start_next lengths k h)

pub fit_sum : (lengths : List ℕ) (size : ℕ) → lengths_fit lengths size ≡ true → sum lengths ≡ size
unfolding lengths_fit
fit_sum lengths size e = eqb-true (sum lengths) size ((and-eq-true_iff (leb (length lengths) most_issuers) (eqb (sum lengths) size)).0 e).1

-- ---- the strings

-- there are as many as there are lengths
pub cut_length : (lengths bytes : List ℕ) → length (cut lengths bytes) ≡ length lengths
unfolding cut
cut_length [] bytes = refl
cut_length (n ∷ ns) bytes = ap suc (cut_length ns (drop n bytes))

-- string k, as a part of the bytes
pub cut_at : (lengths bytes : List ℕ) (k : ℕ) → k < length lengths
    → get_or (cut lengths bytes) k [] ≡ take (get_or lengths k 0) (drop (start_of lengths k) bytes)
unfolding cut start_of sum
cut_at [] bytes k h = absurd (omega arith)
cut_at (n ∷ ns) bytes zero h = refl
cut_at (n ∷ ns) bytes (suc k) h = cut_at ns (drop n bytes) k (omega arith) ∙ ap (take (get_or ns k 0)) (drop-drop (sum (take k ns)) n bytes)

module _ (lengths bytes : List ℕ) where
  module _ (fit : lengths_fit lengths (length bytes) ≡ true) where
    pub fit_strings : strings_of lengths bytes ≡ some (cut lengths bytes)
    unfolding strings_of
    fit_strings = rw fit

    pub fit_cut : strings_in lengths bytes ≡ cut lengths bytes
    unfolding strings_in
    fit_cut = rw fit_strings

    pub fit_count : length (strings_in lengths bytes) ≡ length lengths
    fit_count = ap length fit_cut ∙ cut_length lengths bytes

    pub fit_sizes : map length (strings_in lengths bytes) ≡ lengths
    fit_sizes = ap (map length) fit_cut ∙ cut_sizes lengths bytes (fit_sum lengths (length bytes) fit)

  module _ (wrong : lengths_fit lengths (length bytes) ≡ false) where
    pub wrong_strings : strings_of lengths bytes ≡ none
    unfolding strings_of
    wrong_strings = rw wrong

    pub wrong_none : strings_in lengths bytes ≡ []
    unfolding strings_in
    wrong_none = rw wrong_strings
