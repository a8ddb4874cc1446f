-- A loop over a run: what is left to count, at its end, at an element that is refused, at one that is read.
use Rattle.std.specs.Prelude.{ℕ, ◌+◌, ◌≤◌, ◌<◌, ◌≡◌, Bool, true, false, List, [], ◌∷◌, length}
use Rattle.std.proofs.Math.Path.{refl}
use Rattle.std.proofs.Common.{ap, ◌∙◌}
use Rattle.std.proofs.Math.Option.{Option, none, some}
use native.Mathlib.Omega.{arith}
use Rattle.std.proofs.Math.Seq.{slice, slice_empty, length-slice}
use Rattle.reading.specs.Reader.{then, Raw, raw, items}
use Rattle.reading.proofs.Runs.{items_end, items_open, items_next}
use Rattle.der.specs.Places.{element_at, found?}
use Rattle.der.specs.Reads.{Read, refused_read}
use Rattle.std.specs.Prelude.{Ok}
use Rattle.strings.specs.Counts.{Count, unreadable, tally, run_on, any_fits, nothing, total}

module _ {A P : Type 0} (f : Raw → Option A) (size : A → ℕ) (fits : P → A → Bool) (after : A → P) (s : List ℕ) (end : ℕ) (within : end ≤ length s) (p : P) (k : ℕ) where
  abbrev left : ℕ → Count
  left at = run_on size fits after p k (items f (slice at end s))

  pub run_end : (at : ℕ) → at ≤ end → end ≤ at → left at ≡ Ok k
  unfolding run_on tally
  run_end at h u =
      let e : at ≡ end = omega arith in
      rw (e, slice_empty end s, items_end f)

  pub run_refused : (at : ℕ) → at < end → found? (element_at s at end) ≡ false → left at ≡ unreadable
  unfolding run_on
  run_refused at h e =
      rw (items_open f (slice at end s) (omega (arith, length-slice at end s within)), refused_read s end within at (omega arith) _ e)

  module _ (at t b n : ℕ) (did : Read s at end t b n) where
    opened : items f (slice at end s) ≡ then (f (raw t (slice b n s))) (λ a. then (items f (slice n end s)) (λ l. some (a ∷ l)))
    opened = items_next f _ _ _ did.reads

    pub run_none : f (raw t (slice b n s)) ≡ none → left at ≡ unreadable
    unfolding run_on
    run_none e = rw (opened, e)

    module _ (a : A) (is : f (raw t (slice b n s)) ≡ some a) where
      pub run_unfit : fits p a ≡ false → left at ≡ unreadable
      unfolding run_on tally
      run_unfit e = rw (opened, is) (go (items f (slice n end s)))
        where
          go : (o : Option (List A)) → run_on size fits after p k (then o (λ l. some (a ∷ l))) ≡ unreadable
          go none = refl
          go (some l) = rw e

      pub run_next : fits p a ≡ true → left at ≡ run_on size fits after (after a) (k + size a) (items f (slice n end s))
      unfolding run_on tally
      run_next e = rw (opened, is) (go (items f (slice n end s)))
        where
          go : (o : Option (List A)) → run_on size fits after p k (then o (λ l. some (a ∷ l))) ≡ run_on size fits after (after a) (k + size a) o
          go none = refl
          go (some l) = rw e

-- where any item may follow, the tally is the total
pub tally_total : {A : Type 0} (size : A → ℕ) (p k : ℕ) (l : List A) → tally size any_fits nothing p k l ≡ Ok (k + total size l)
unfolding tally total
tally_total size p k [] = ap Ok (omega arith)
tally_total size p k (a ∷ l) = tally_total size 0 (k + size a) l ∙ ap Ok (omega arith)

pub total_ones : {A : Type 0} (l : List A) → total (λ a. 1) l ≡ length l
unfolding total
total_ones [] = refl
total_ones (a ∷ l) = rw (total_ones l) (omega arith)
