-- The bytes of two texts side by side, as an iterator gives them, and what `all` returns of these. `search` finds the proof by the iterator's
-- type: two slices zipped, or such an iterator stepped through by one, which passes over nothing. No code steps by one: by that law the
-- must-fail edit `same_text_skips`, which steps by two, is refused for the two.
use Prim.Native.Nat.{ℕ, ◌+◌}
use mathlib.Core.Path.{◌≡◌, sym, subst, ◌∙◌}
use mathlib.Core.Bool.{Bool, true, false, cond}
use mathlib.Core.List.{List, [], ◌∷◌}
use native.Mathlib.Omega.{arith}
use denote.Param.Members.{Mut}
use denote.Ref.{Bor}
use lib.ListN.{length}
use Rattle.std.specs.Prelude.{Option}
use Rattle.std.specs.declared.iter.StepBy.{StepBy}
use Rattle.std.specs.declared.iter.Zip.{Zip}
use Rattle.std.specs.declared.slice.Iter.{Iter}
use Rattle.std.specs.Fn.{Called}
use Rattle.std.specs.Iterator.{AlwaysYields, YieldsThen, ChecksAll}
use Rattle.std.specs.Iterator.Adapters.{step_by_source, step_by_gap, step_by_steps, zip_first, zip_second}
use Rattle.std.specs.Iterator.Runs.{Run}
use Rattle.std.specs.List.{zip}
use Rattle.std.specs.Slice.Iter.{iter_rest}
use Rattle.std.proofs.iter.Yields.{fronts}
use Rattle.std.proofs.lemmas.Iterator.{YieldsList, zips, YieldsList-from_zip, YieldsList-from_slice}
use Rattle.std.proofs.lemmas.Iterator.Consumers.{YieldsList-at}
use Rattle.std.proofs.lemmas.Iterator.Search.{all_from_yields_List}
use Rattle.octets.specs.Texts.{same_byte, each_same}

-- ---- steps of one

module _ {S A B : Type 0} (steps : S → Option A → S → Type 0) (v : A → B) where
  -- what is passed over before an item
  none_past : (first : Bool) (gap n : ℕ) → gap ≡ 0 → n ≡ cond first 0 gap → n ≡ 0
  none_past true gap n e f = f
  none_past false gap n e f = f ∙ e

  at_once : (xs : List A) (s t : S) (r : Option A) → length xs ≡ 0 → YieldsThen steps s xs r t → steps s r t
  at_once [] s t r e y = subst (λ u. steps u r t) (sym y.1) y.2
  at_once (x ∷ xs) s t r e y = absurd (omega arith)

  by_one : (ys : List B) (s : StepBy S) → step_by_gap s ≡ 0 → AlwaysYields steps v (step_by_source s) ys → AlwaysYields (step_by_steps steps) v s ys
  by_one [] s e h = λ x t p. let q = p.2 in h x (step_by_source t) (at_once q.1 _ _ _ (q.4 ∙ none_past _ _ _ e q.2) q.3)
  by_one (y ∷ ys) s e h = (
    (λ t p. let q = p.2 in h.0 (step_by_source t) (at_once q.1 _ _ _ (omega (arith, q.4, none_past _ _ _ e q.2)) q.3)),
    λ x t p.
        let q = p.2 in
        let i = h.1 x (step_by_source t) (at_once q.1 _ _ _ (q.4 ∙ none_past _ _ _ e q.2) q.3) in
        (i.0, by_one ys t (p.0 ∙ e) i.1),
  )

  pub gives_by_one : (ys : List B) (s : StepBy S) (t : S) → step_by_source s ≡ t → step_by_gap s + 1 ≡ 1 → YieldsList steps v t ys
      → YieldsList (step_by_steps steps) v s ys
  gives_by_one ys s t is e gives = record { runs = by_one ys s (omega (arith, e)) (YieldsList-at is gives).runs }

-- ---- two texts

-- s gives the bytes of a and b side by side
pub record Pairs {S : Type 0} (s : S) (a b : List ℕ) : Type 1 where
  steps : S → Option (Bor ℕ × Bor ℕ) → S → Type 0
  gives : YieldsList {B = ℕ × ℕ} steps (λ q. (q.0.now, q.1.now)) s (zip a b)

module _ (a b : List ℕ) where
  abbrev pub zipped : (s : Zip (Iter ℕ) (Iter ℕ)) (t : Iter ℕ) → zip_first s ≡ t → iter_rest t ≡ a → iter_rest (zip_second s) ≡ b → Pairs s a b
  zipped s t is e f = record {
    steps = zips fronts fronts;
    gives = YieldsList-from_zip (YieldsList-at is (YieldsList-from_slice a e)) (YieldsList-from_slice b f);
  }

  abbrev pub stepped : {S : Type 0} (s : StepBy S) (t : S) → step_by_source s ≡ t → step_by_gap s + 1 ≡ 1 → Pairs t a b → Pairs s a b
  stepped s t is e p = record { steps = step_by_steps p.steps; gives = gives_by_one p.steps _ (zip a b) s t is e p.gives }

  -- the run tells which iterator it is
  pub all_is : {S F : Type 0} {steps : S → Option (Bor ℕ × Bor ℕ) → S → Type 0} {g : Mut F ((Bor ℕ × Bor ℕ) × Unit {0}) Bool} (run : Run steps) (s t : S)
      → run.from ≡ s → (f : F) (r : Bool) (p : Pairs s a b) → ChecksAll p.steps g s f r t
      → ((x : Bor ℕ × Bor ℕ) (y : Bool) (q : F) → Called g f (x, tt) y q → (q ≡ f) × (y ≡ same_byte x.0.now x.1.now)) → r ≡ each_same a b
  all_is run s t e f r p ran k = all_from_yields_List (λ q. same_byte q.0 q.1) t f r ran p.gives k

pub ruleset pairs = (zipped, stepped)
