-- Request 3/13, the viewer, as statements about the very names that its contracts cite: `opening_on` and `view_on`
-- (crates/reading/specs/Calls.antt). Each field stands under the sentence that it says; proofs/Viewings.antt proves them all.
use Rattle.std.specs.Prelude.{ℕ, zero, suc, ◌+◌, ◌≤◌, ◌<◌, ◌≡◌, ◌↔◌, ◌≢◌, List, [], ◌∷◌, length, T, Option, Some, None}
use Rattle.std.proofs.Math.Option.{some}
use Rattle.std.proofs.Math.ListN.{get_elem?}
use Rattle.rules.specs.Seen.{listed, Sees}
use Rattle.rules.specs.Viewer.{opening_at}
use Rattle.rules.specs.declared.Row.{Row}
use Rattle.rules.specs.declared.View.{View}
use Rattle.reading.specs.Calls.{opening_on, view_on}
use Rattle.demands.specs.Statements.{CertificateString, Answer, when, EachExactly, Unreadable}

-- "Opening unreadable bytes is refused with 3, 4 or 5, over-long ones with 7, in 01's order."
abbrev pub opening_answers : CertificateString → List ℕ → List Answer
opening_answers S bytes =
    when 7 (S.input.limit < length bytes) ∷ when S.refusal (Unreadable S.input bytes) ∷ when 0 Unit ∷ []

-- a step shows this row. "After a row the position stands just past its element."
abbrev pub shows : Row → View
shows r = record { row = Some r; at = r.start + r.length }

-- "it says that it's at the end"; "a step at the end doesn't move it"
abbrev pub end_at : ℕ → View
end_at at = record { row = None; at = at }

-- r is "the first row .. that starts at or past the position"
pub record FirstFrom (at : ℕ) (rows : List Row) (r : Row) : Type 0 where
  pub index : ℕ
  pub stands : get_elem? rows index ≡ some r
  pub past : at ≤ r.start
  pub before : (j : ℕ) (q : Row) → j < index → get_elem? rows j ≡ some q → q.start < at

-- no row starts at or past the position
abbrev pub NoneFrom : ℕ → List Row → Type 0
NoneFrom at rows = (j : ℕ) (q : Row) → get_elem? rows j ≡ some q → q.start < at

-- `step` is what a step from a position shows. Where a viewer stands after n steps:
unfoldable pub nth_at : (ℕ → View) → ℕ → ℕ → ℕ
nth_at step at zero = at
nth_at step at (suc n) = nth_at step (step at).at n

-- what the n-th step shows, counted from 0
unfoldable pub nth_row : (ℕ → View) → ℕ → ℕ → Option Row
nth_row step at n = (step (nth_at step at n)).row

-- the viewer of the string S, of which the number is `which`
pub record Viewing (which : ℕ) (S : CertificateString) : Type 0 where
  pub order : (bytes : List ℕ) → EachExactly [] (opening_answers S bytes) (opening_on which bytes)
  -- "Each step shows the first row of 01's listing that starts at or past the position, whatever position it's handed"
  pub first :
      (bytes : List ℕ) (list : List S.Name) → Sees S.input bytes (listed list)
      → (at : ℕ) (r : Row) → view_on which bytes at ≡ shows r ↔ FirstFrom at (S.input.grammar.rows list) r
  -- "if there is none"
  pub none_left :
      (bytes : List ℕ) (list : List S.Name) → Sees S.input bytes (listed list)
      → (at : ℕ) → view_on which bytes at ≡ end_at at ↔ NoneFrom at (S.input.grammar.rows list)
  -- "or the listing refuses the bytes"
  pub refused : (bytes : List ℕ) → opening_on which bytes ≢ 0 → (at : ℕ) → view_on which bytes at ≡ end_at at
  -- "From an opening the steps show exactly the listing's rows, in order,"
  pub in_order :
      (bytes : List ℕ) (list : List S.Name) → Sees S.input bytes (listed list)
      → (i : ℕ) (r : Row) → get_elem? (S.input.grammar.rows list) i ≡ some r → nth_row (view_on which bytes) opening_at i ≡ Some r
  -- "then the end at every further step"
  pub then_end :
      (bytes : List ℕ) (list : List S.Name) → Sees S.input bytes (listed list)
      → (i : ℕ) → length list ≤ i
      → view_on which bytes (nth_at (view_on which bytes) opening_at i) ≡ end_at (nth_at (view_on which bytes) opening_at i)
  -- "An absent string opens at its end."
  pub absent : T S.input.optional → (opening_on which [] ≡ 0) × (view_on which [] opening_at ≡ end_at opening_at)
