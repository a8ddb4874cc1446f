-- The records, as `chunks_exact` gives them.
use Prim.Native.Nat.{ℕ, zero, suc, ◌+◌, ◌/◌}
use mathlib.Core.Path.{◌≡◌, refl, sym, ap, subst, ◌∙◌}
use mathlib.Core.List.{List, ◌++◌}
use native.Mathlib.Omega.{arith}
use lib.ListN.{length, take, drop, length-append}
use lib.Seq.{take-append_seam, drop-append_seam}
use denote.Ref.{Bor}
use Rattle.std.proofs.lemmas.Iterator.{YieldsList}
use Rattle.std.specs.Prelude.{Some}
use Rattle.std.specs.Iterator.{AlwaysYields}
use Rattle.std.specs.Slice.Iter.{chunks_exact_steps, chunks_exact_rest, chunks_exact_size}
use Rattle.rules.specs.Numbers.{record_size}
use Rattle.rules.specs.Records.{split, records_of}

module _ (s j : _) (x : Bor (List ℕ)) (p : chunks_exact_steps s (Some x) j) (size : chunks_exact_size s ≡ record_size) where
  long : length x.now ≡ record_size
  long = p.1.1 ∙ size

  first_is : x.now ≡ take record_size (chunks_exact_rest s)
  first_is = sym (ap (take record_size) p.1.0 ∙ subst (λ n. take n (x.now ++ chunks_exact_rest j) ≡ x.now) long (take-append_seam x.now (chunks_exact_rest j)))

  rest_is : chunks_exact_rest j ≡ drop record_size (chunks_exact_rest s)
  rest_is = sym (ap (drop record_size) p.1.0 ∙ subst (λ n. drop n (x.now ++ chunks_exact_rest j) ≡ chunks_exact_rest j) long (drop-append_seam x.now (chunks_exact_rest j)))

  fewer : length (chunks_exact_rest s) ≡ record_size + length (chunks_exact_rest j)
  fewer = ap length p.1.0 ∙ length-append x.now (chunks_exact_rest j) ∙ ap (λ n. n + length (chunks_exact_rest j)) long

gives : (k : ℕ) (s : _) → chunks_exact_size s ≡ record_size → length (chunks_exact_rest s) / record_size ≡ k → AlwaysYields chunks_exact_steps (λ y. y.now) s (split k (chunks_exact_rest s))
unfolding split
gives zero s size e = λ x j p. absurd (omega (arith, fewer s j x p size))
gives (suc k) s size e = (
  λ j p. omega (arith, p.1.0),
  λ x j p. (
    first_is s j x p size,
    subst (λ l. AlwaysYields chunks_exact_steps (λ y. y.now) j (split k l)) (rest_is s j x p size) (gives k j (p.0 ∙ size) (omega (arith, fewer s j x p size))),
  ),
)

-- the records are the items
pub split_given : {s : _} (b : List ℕ) → chunks_exact_rest s ≡ b → chunks_exact_size s ≡ record_size → YieldsList chunks_exact_steps (λ y. y.now) s (records_of b)
unfolding records_of
split_given {s} b e size = record { runs = subst (λ b. AlwaysYields chunks_exact_steps (λ y. y.now) s (split (length b / record_size) b)) e (gives (length (chunks_exact_rest s) / record_size) s size refl) }
