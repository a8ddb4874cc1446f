-- What steps show over rows that lie side by side.
use Prim.Native.Nat.{ℕ, zero, suc, ◌+◌, ◌≤◌, ◌<◌}
use mathlib.Core.Path.{◌≡◌, refl, sym, ap, subst, ◌∙◌}
use mathlib.Core.Logic.{◌↔◌}
use mathlib.Core.Bool.{Bool, true, false}
use mathlib.Core.Option.{Option, none, some, some-injective}
use mathlib.Core.List.{List, [], ◌∷◌}
use native.Mathlib.Omega.{arith}
use native.Mathlib.Decide.{dec_lt}
use lib.Dec.{leb}
use lib.ListN.{length, get_elem?}
use borrow.Author.Tests.{leb-true, leb-false}
use Rattle.std.specs.Prelude as std
use Rattle.std.specs.Prelude.{Some}
use Rattle.rules.specs.Seen.{listed}
use Rattle.rules.specs.Viewer.{row_from, row_or_end, view_of, opening_at}
use Rattle.rules.specs.declared.Row.{Row}
use Rattle.rules.specs.declared.View.{View}
use Rattle.reading.specs.Answers.{no_some}
use Rattle.reading.specs.Laid.{Laid, next}
use Rattle.reading.proofs.Laid.{row_here, row_later, row_none, end_or_row}
use Rattle.demands.specs.Viewing.{shows, end_at, FirstFrom, NoneFrom, nth_at, nth_row}

-- ---- the first row from a position

first_from : (at : ℕ) (rows : List Row) (r : Row) → row_from at rows ≡ some r → FirstFrom at rows r
first_from at [] r e = absurd (no_some (sym (row_none at) ∙ e))
first_from at (q ∷ rows) r e = go (first_from at rows r) (leb at q.start) refl
  where
    go : (row_from at rows ≡ some r → FirstFrom at rows r) → (t : Bool) → leb at q.start ≡ t → FirstFrom at (q ∷ rows) r
    go rest true f =
        let h = leb-true at q.start f in
        let k : q ≡ r = some-injective q r (sym (row_here at q rows h) ∙ e) in
        record { index = 0; stands = ap {B = Option Row} some k; past = subst (λ x. at ≤ x.start) k h; before = λ j p l g. absurd (omega arith) }
    go rest false f =
        let h = leb-false at q.start f in
        let k = rest (sym (row_later at q rows h) ∙ e) in
        record { index = suc k.index; stands = k.stands; past = k.past; before = earlier k h }
      where
        earlier : (k : FirstFrom at rows r) → q.start < at → (j : ℕ) (p : Row) → j < suc k.index → get_elem? (q ∷ rows) j ≡ some p → p.start < at
        earlier k h zero p l g = subst (λ x. x.start < at) (some-injective q p g) h
        earlier k h (suc j) p l g = k.before j p (omega arith) g

none_from : (at : ℕ) (rows : List Row) → row_from at rows ≡ none → NoneFrom at rows
none_from at [] e j q g = absurd (no_some g)
none_from at (r ∷ rows) e j q g = go (λ f i. none_from at rows f i q) (leb at r.start) refl j g
  where
    go : (row_from at rows ≡ none → (i : ℕ) → get_elem? rows i ≡ some q → q.start < at)
        → (t : Bool) → leb at r.start ≡ t → (j : ℕ) → get_elem? (r ∷ rows) j ≡ some q → q.start < at
    go rest true f j g = absurd (no_some (sym e ∙ row_here at r rows (leb-true at r.start f)))
    go rest false f zero g = subst (λ x. x.start < at) (some-injective r q g) (leb-false at r.start f)
    go rest false f (suc j) g = rest (sym (row_later at r rows (leb-false at r.start f)) ∙ e) j g

-- there is one first row
only_first : (at : ℕ) (rows : List Row) (q r : Row) → FirstFrom at rows q → FirstFrom at rows r → q ≡ r
only_first at rows q r a b = go (dec_lt a.index b.index) (dec_lt b.index a.index)
  where
    go : Dec (a.index < b.index) → Dec (b.index < a.index) → q ≡ r
    go (yes h) d = let k = b.before a.index q h a.stands in let l = a.past in absurd (omega arith)
    go (no h) (yes g) = let k = a.before b.index r g b.stands in let l = b.past in absurd (omega arith)
    go (no h) (no g) =
        let k : a.index ≡ b.index = omega arith in
        some-injective q r (sym a.stands ∙ ap (get_elem? rows) k ∙ b.stands)

-- ---- one step

module _ (rows : List Row) where
  view_row : (at : ℕ) (r : Row) → row_from at rows ≡ some r → view_of (listed rows) at ≡ shows r
  unfolding view_of row_or_end
  view_row at r e = rw e

  view_end : (at : ℕ) → row_from at rows ≡ none → view_of (listed rows) at ≡ end_at at
  unfolding view_of row_or_end
  view_end at e = rw e

  pub shows_first : (at : ℕ) (r : Row) → view_of (listed rows) at ≡ shows r ↔ FirstFrom at rows r
  shows_first at r = go (row_from at rows) refl
    where
      go : (o : Option Row) → row_from at rows ≡ o → view_of (listed rows) at ≡ shows r ↔ FirstFrom at rows r
      go none f = (
        λ e. absurd (end_or_row (ap (λ v. v.row) (sym (view_end at f) ∙ e))),
        λ k. let z = none_from at rows f k.index r k.stands in let y = k.past in absurd (omega arith),
      )
      go (some q) f = (
        λ e.
            let v : Some q ≡ Some r = ap (λ v. v.row) (sym (view_row at q f) ∙ e) in
            let same : q ≡ r = cc in
            first_from at rows r (f ∙ ap {B = Option Row} some same),
        λ k. view_row at q f ∙ ap shows (only_first at rows q r (first_from at rows q f) k),
      )

  pub shows_none : (at : ℕ) → view_of (listed rows) at ≡ end_at at ↔ NoneFrom at rows
  shows_none at = go (row_from at rows) refl
    where
      go : (o : Option Row) → row_from at rows ≡ o → view_of (listed rows) at ≡ end_at at ↔ NoneFrom at rows
      go none f = (λ e. none_from at rows f, λ k. view_end at f)
      go (some q) f = (
        λ e. absurd (end_or_row (ap (λ v. v.row) (sym e ∙ view_row at q f))),
        λ k.
            let w = first_from at rows q f in
            let z = k w.index q w.stands in
            let y = w.past in
            absurd (omega arith),
      )

  -- ---- many steps

  abbrev step : ℕ → View
  step = view_of (listed rows)

  -- from `at` on the rows show what these last ones show
  abbrev Last : ℕ → List Row → Type 0
  Last at last = (q : ℕ) → at ≤ q → row_from q rows ≡ row_from q last

  -- the first of the last rows is shown
  step_here : (at : ℕ) (r : Row) (last : List Row) → at ≤ r.start → Last at (r ∷ last) → step at ≡ shows r
  step_here at r last h e = view_row at r (e at (omega arith) ∙ row_here at r last h)

  step_over : (at : ℕ) → Last at [] → step at ≡ end_at at
  step_over at e = view_end at (e at (omega arith) ∙ row_none at)

  last_next : (at : ℕ) (r : Row) (last : List Row) → at ≤ r.start → 0 < r.length → Last at (r ∷ last) → Last (r.start + r.length) last
  last_next at r last h k e q l = e q (omega arith) ∙ row_later q r last (omega arith)

  -- the i-th step shows the i-th of the last rows
  steps_show : (last : List Row) (at end : ℕ) → Laid at end last → Last at last → (i : ℕ) (r : Row) → get_elem? last i ≡ some r → nth_row step at i ≡ Some r
  unfolding nth_row nth_at
  steps_show [] at end l e i r g = absurd (no_some g)
  steps_show (p ∷ last) at end (next h k l) e zero r g =
      ap (λ x. x.row) (step_here at p last h e) ∙ ap {B = std.Option Row} Some (some-injective p r g)
  steps_show (p ∷ last) at end (next h k l) e (suc i) r g =
      ap (λ x. (step (nth_at step x.at i)).row) (step_here at p last h e)
      ∙ steps_show last (p.start + p.length) end l (last_next at p last h k e) i r g

  -- a viewer stands at the end after i steps
  abbrev EndAfter : ℕ → ℕ → Type 0
  EndAfter i at = step (nth_at step at i) ≡ end_at (nth_at step at i)

  stays : (at : ℕ) → Last at [] → (i : ℕ) → EndAfter i at
  unfolding nth_at
  stays at e zero = step_over at e
  stays at e (suc i) = subst (EndAfter i) (sym (ap (λ x. x.at) (step_over at e))) (stays at e i)

  steps_end : (last : List Row) (at end : ℕ) → Laid at end last → Last at last → (i : ℕ) → length last ≤ i → EndAfter i at
  unfolding nth_at
  steps_end [] at end l e i h = stays at e i
  steps_end (p ∷ last) at end l e zero h = absurd (omega arith)
  steps_end (p ∷ last) at end (next h k l) e (suc i) g =
      subst (EndAfter i) (sym (ap (λ x. x.at) (step_here at p last h e)))
      (steps_end last (p.start + p.length) end l (last_next at p last h k e) i (omega arith))

  -- "From an opening the steps show exactly the listing's rows, in order, then the end at every further step."
  pub pages : {end : ℕ} → Laid opening_at end rows → (i : ℕ) (r : Row) → get_elem? rows i ≡ some r → nth_row step opening_at i ≡ Some r
  pages {end} l = steps_show rows opening_at end l (λ q h. refl)

  pub pages_end : {end : ℕ} → Laid opening_at end rows → (i : ℕ) → length rows ≤ i → EndAfter i opening_at
  pages_end {end} l = steps_end rows opening_at end l (λ q h. refl)
