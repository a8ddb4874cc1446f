-- Where the first subtree of a form stands in a part.
use Prim.Native.Nat.{ℕ, ◌≤◌, ◌<◌}
use mathlib.Core.Path.{◌≡◌, refl, sym, ◌∙◌}
use mathlib.Core.Bool.{Bool, true, false}
use mathlib.Core.Option.{none, some}
use mathlib.Core.List.{List, [], ◌∷◌}
use native.Mathlib.Omega.{arith}
use lib.Dec.{ltb, leb}
use borrow.Author.Tests.{lt-ltb, le-ltb, leb-true, leb-false}
use Rattle.octets.proofs.Cases.{by_cases}
use Rattle.rules.specs.Bytes.{some?}
use Rattle.rules.specs.San.{GeneralName}
use Rattle.rules.specs.Matching.{Form}
use Rattle.reading.specs.Strings.{read_subtree}
use Rattle.der.specs.Runs.{items_in, no_items, with_first}
use Rattle.constrained.specs.Subtrees.{texts_of, texts_in, Narrowed}
use Rattle.constrained.specs.Walks.{name_in, subtrees_left}
use Rattle.constrained.specs.declared.ValidName.{ValidName}
use Rattle.constrained.specs.declared.Subtrees.{Subtrees}

-- a walk that has come to `at` in a part, past subtrees of other forms
pub record Passed (form : Form) (start : Subtrees) (rest : Subtrees) (at : ℕ) : Type 0 where
  pub place : rest.at ≡ at
  pub same : rest.bytes.now ≡ start.bytes.now
  pub last : rest.end ≡ start.end
  pub texts : texts_of form (subtrees_left rest) ≡ texts_of form (subtrees_left start)

pub passed_begin : (form : Form) (start : Subtrees) → Passed form start start start.at
passed_begin form start = record { place = refl; same = refl; last = refl; texts = refl }

-- a run is at its end where nothing is left, and only there
left_none : (s : Subtrees) → subtrees_left s ≡ [] → s.end ≤ s.at
unfolding subtrees_left
left_none s e = by_cases (leb s.end s.at) (λ q. leb-true s.end s.at q) (λ q.
    with_first read_subtree s.bytes.now s.at s.end s.run (leb-false s.end s.at q) λ t b n w.
    let k : [] ≡ w.item ∷ items_in read_subtree s.bytes.now n s.end = sym e ∙ w.list in
    let z : ◌≡◌ {A = ℕ} 0 1 = cc in absurd (omega arith))

left_some : (s : Subtrees) (m : GeneralName) (l : List GeneralName) → subtrees_left s ≡ m ∷ l → s.at < s.end
unfolding subtrees_left
left_some s m l e = by_cases (leb s.end s.at) (λ q.
    let h : s.at ≡ s.end = omega (arith, leb-true s.end s.at q, s.run.order) in
    let k : [] ≡ m ∷ l = sym (no_items read_subtree s.bytes.now s.end) ∙ (rw h at e) in
    let z : ◌≡◌ {A = ℕ} 0 1 = cc in absurd (omega arith)) (λ q. leb-false s.end s.at q)

module _ (form : Form) (start rest : Subtrees) (at : ℕ) (inv : Passed form start rest at) where
  narrowed : (b : Bool) → ltb rest.at rest.end ≡ b → some? (texts_of form (subtrees_left rest)) ≡ b → Narrowed form start.bytes.now start.at start.end at
  unfolding texts_in subtrees_left
  narrowed b p q =
      let t : texts_in form start.bytes.now at start.end ≡ texts_in form start.bytes.now start.at start.end = rw (inv.same, inv.place, inv.last) at inv.texts in
      let k : ltb at start.end ≡ b = rw (inv.place, inv.last) at p in
      let l : some? (texts_in form start.bytes.now at start.end) ≡ b = rw (inv.same, inv.place, inv.last) at q in
      record {
        subtrees = rw (inv.same, inv.place, inv.last) at rest.run;
        texts = t;
        any_there = rw (← t) (l ∙ sym k);
      }

  -- no subtree of the form is left
  pub narrow_end : subtrees_left rest ≡ [] → Narrowed form start.bytes.now start.at start.end at
  unfolding texts_of
  narrow_end e = narrowed false (le-ltb rest.at rest.end (left_none rest e)) (rw e)

  module _ (x : ValidName) (t : Subtrees) (step : subtrees_left rest ≡ name_in x ∷ subtrees_left t) where
    -- the subtree is of the form
    pub narrow_here : (c : List ℕ) → form.text (name_in x) ≡ some c → Narrowed form start.bytes.now start.at start.end at
    unfolding texts_of
    narrow_here c e = narrowed true (lt-ltb rest.at rest.end (left_some rest _ _ step)) (rw (step, e))

    -- it is of another, and is passed over
    pub narrow_next : form.text (name_in x) ≡ none → t.bytes.now ≡ rest.bytes.now → t.end ≡ rest.end → Passed form start t t.at
    unfolding texts_of
    narrow_next e same last = record {
      place = refl;
      same = same ∙ inv.same;
      last = last ∙ inv.last;
      texts = rw (step, e) at inv.texts;
    }

pub ruleset narrowing = (passed_begin, narrow_end, narrow_here, narrow_next)
