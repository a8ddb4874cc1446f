-- What an opening answers, and what is found among the rows is what the whole listing shows; the position after it lies within the string.
use Prim.Native.Nat.{ℕ, ◌+◌, ◌≤◌}
use mathlib.Core.Path.{◌≡◌, refl, sym, ap, subst, ◌∙◌}
use mathlib.Core.Bool.{Bool, true, false, cond}
use mathlib.Core.Option.{Option, none, some}
use mathlib.Core.List.{List, [], ◌∷◌}
use native.Mathlib.Omega.{arith}
use lib.Dec.{leb}
use lib.ListN.{length}
use denote.Ref.{Bor}
use denote.Param.Members.{Mut}
use Rattle.std.specs.Bool.{⊤}
use Rattle.std.specs.Fn.{CalledAt}
use Rattle.std.specs.Iterator.{YieldsThen, YieldsFirst}
use Rattle.std.specs.List.{FoldsTo, find}
use Rattle.std.specs.Option.{MatchOption, option_map}
use Rattle.std.proofs.lemmas.Iterator.Consumers.{YieldsList-from_first}
use Rattle.std.proofs.lemmas.Iterator.Search.{find_from_yields_List}
use Rattle.std.specs.Prelude as std
use Rattle.std.specs.Prelude.{Result, Ok, Err, Some, None}
use Rattle.rules.specs.Numbers.{answer_of}
use Rattle.rules.specs.Seen.{Seen, too_long, unreadable, listed}
use Rattle.rules.specs.Viewer.{row_from, row_or_end, view_of, opening_of}
use Rattle.rules.specs.declared.Refusal.{Refusal}
use Rattle.rules.specs.declared.Refusal.TheVariants.{InputTooLong}
use Rattle.rules.specs.declared.Row.{Row}
use Rattle.reading.specs.Calls.{refusal_of, seen_rows, opening_on, view_on}
use Rattle.reading.proofs.Laid.{row_within, end_or_row, rows_laid}
use Rattle.steps.specs.Rows.{rows_left, walk_of}
use Rattle.steps.specs.Steps.{source_of}
use Rattle.steps.specs.declared.Rows.{Rows}
use Rattle.steps.specs.declared.Source.{Source}
use Rattle.listing.specs.Plans.{unreadable_of, opened_for, opened_of}
use Rattle.listing.specs.declared.Names.{Names}
use Rattle.listing.proofs.Table.{seen_rows_is, refusal_is, all_shown}

-- ---- the first row that starts at or past a position, as code finds it

module _ (at : ℕ) where
  abbrev starts_from : Row → Bool
  starts_from r = leb at r.start

  abbrev same_row : Option Row → std.Option Row
  same_row none = None
  same_row (some r) = Some r

  same_find : (rows : List Row) → find starts_from rows ≡ same_row (row_from at rows)
  unfolding row_from
  same_find [] = refl
  same_find (r ∷ rows) = go (starts_from r) (same_find rows)
    where
      go : (t : Bool) → find starts_from rows ≡ same_row (row_from at rows) → cond t (Some r) (find starts_from rows) ≡ same_row (cond t (some r) (row_from at rows))
      go true e = refl
      go false e = e

  found_shows : (rows : List Row) (r : Row) → find starts_from rows ≡ Some r → record { row = Some r; at = r.start + r.length } ≡ row_or_end (row_from at rows) at
  unfolding row_or_end
  found_shows rows r e = go (row_from at rows) (sym (same_find rows) ∙ e)
    where
      go : (o : Option Row) → same_row o ≡ Some r → record { row = Some r; at = r.start + r.length } ≡ row_or_end o at
      go none e = absurd (end_or_row e)
      go (some q) e =
          let k : q ≡ r = cc in
          rw k

  none_ends : (rows : List Row) → find starts_from rows ≡ None → record { row = None; at = at } ≡ row_or_end (row_from at rows) at
  unfolding row_or_end
  none_ends rows e = go (row_from at rows) (sym (same_find rows) ∙ e)
    where
      go : (o : Option Row) → same_row o ≡ None → record { row = None; at = at } ≡ row_or_end o at
      go none e = refl
      go (some q) e = absurd (end_or_row (sym e))

-- a position after a row lies within the string
view_fits : (which : ℕ) (s : List ℕ) (at : ℕ) (r : Row) (p : ℕ) → view_on which s at ≡ record { row = Some r; at = p } → p ≤ length s
unfolding view_of row_or_end
view_fits which s at r p e = go (seen_rows which s) refl e
  where
    found : (rows : List Row) → seen_rows which s ≡ listed rows → (o : Option Row) → row_from at rows ≡ o → row_or_end o at ≡ record { row = Some r; at = p } → p ≤ length s
    found rows f none g e = absurd (end_or_row (ap (λ v. v.row) e))
    found rows f (some q) g e = subst (λ x. x ≤ length s) (ap (λ v. v.at) e) (row_within rows (rows_laid which s rows f) at q g)

    go : (x : Seen Row) → seen_rows which s ≡ x → view_of x at ≡ record { row = Some r; at = p } → p ≤ length s
    go too_long f e = absurd (end_or_row (ap (λ v. v.row) e))
    go unreadable f e = absurd (end_or_row (ap (λ v. v.row) e))
    go (listed rows) f e = found rows f (row_from at rows) refl e

-- ---- a string that is opened

module _ (which : ℕ) (source : Source) (source_is : source ≡ source_of which) (bytes : Bor (List ℕ)) (o : Result Names Refusal) (o_is : o ≡ opened_of source bytes) where
  opened_is : o ≡ opened_for (source_of which) bytes (seen_rows which bytes.now)
  unfolding opened_of
  opened_is = o_is ∙ rw (source_is, seen_rows_is which bytes.now)

  pub opening_accepted : (names : Names) → o ≡ Ok names → 0 ≡ opening_on which bytes.now
  unfolding opened_for opening_of
  opening_accepted names e = go (seen_rows which bytes.now) (sym opened_is ∙ e)
    where
      go : (x : Seen Row) → opened_for (source_of which) bytes x ≡ Ok names → 0 ≡ opening_of (refusal_of which) x
      go too_long e = let z : ◌≡◌ {A = ℕ} 0 1 = cc in absurd (omega arith)
      go unreadable e = let z : ◌≡◌ {A = ℕ} 0 1 = cc in absurd (omega arith)
      go (listed rows) e = refl

  pub opening_refused : (why : Refusal) → o ≡ Err why → (answer : ℕ) → answer ≡ answer_of why → answer ≡ opening_on which bytes.now
  unfolding opened_for opening_of
  opening_refused why e answer answer_is = answer_is ∙ go (seen_rows which bytes.now) (sym opened_is ∙ e)
    where
      go : (x : Seen Row) → opened_for (source_of which) bytes x ≡ Err why → answer_of why ≡ opening_of (refusal_of which) x
      go too_long e =
          let k : InputTooLong ≡ why = cc in
          rw (← k)
      go unreadable e =
          let k : unreadable_of (source_of which) ≡ why = cc in
          rw (← k) (refusal_is which)
      go (listed rows) e = let z : ◌≡◌ {A = ℕ} 0 1 = cc in absurd (omega arith)

  pub view_refused : (why : Refusal) → o ≡ Err why → (at : ℕ) → record { row = None; at = at } ≡ view_on which bytes.now at
  unfolding opened_for view_of row_or_end
  view_refused why e at = go (seen_rows which bytes.now) (sym opened_is ∙ e)
    where
      go : (x : Seen Row) → opened_for (source_of which) bytes x ≡ Err why → record { row = None; at = at } ≡ view_of x at
      go too_long e = refl
      go unreadable e = refl
      go (listed rows) e = let z : ◌≡◌ {A = ℕ} 0 1 = cc in absurd (omega arith)

  module _ (names : Names) (e : o ≡ Ok names) where
    rows_are : seen_rows which bytes.now ≡ listed (rows_left names.rows)
    unfolding opened_for
    rows_are = go (seen_rows which bytes.now) refl (sym opened_is ∙ e)
      where
        go : (x : Seen Row) → seen_rows which bytes.now ≡ x → opened_for (source_of which) bytes x ≡ Ok names → x ≡ listed (rows_left names.rows)
        go too_long f e = let z : ◌≡◌ {A = ℕ} 0 1 = cc in absurd (omega arith)
        go unreadable f e = let z : ◌≡◌ {A = ℕ} 0 1 = cc in absurd (omega arith)
        go (listed rows) f e =
            let k : record { count = length rows; rows = walk_of (source_of which) bytes } ≡ names = cc in
            rw (← k) (ap listed (sym (all_shown (source_of which) bytes.now (sym (seen_rows_is which bytes.now) ∙ f))))

    pub view_shows : (at : ℕ) (r : Row) → find (starts_from at) (rows_left names.rows) ≡ Some r → record { row = Some r; at = r.start + r.length } ≡ view_on which bytes.now at
    unfolding view_of
    view_shows at r found = found_shows at (rows_left names.rows) r found ∙ ap (λ x. view_of x at) (sym rows_are)

    pub view_ends : (at : ℕ) → find (starts_from at) (rows_left names.rows) ≡ None → record { row = None; at = at } ≡ view_on which bytes.now at
    unfolding view_of
    view_ends at found = none_ends at (rows_left names.rows) found ∙ ap (λ x. view_of x at) (sym rows_are)

    pub past_fits : (at : ℕ) (r : Row) → find (starts_from at) (rows_left names.rows) ≡ Some r → r.start + r.length ≤ length bytes.now
    past_fits at r found = view_fits which bytes.now at r (r.start + r.length) (sym (view_shows at r found))

-- ---- what `find` of a walk answers

pub walk_finds : {F : Type 0} {g : Mut F (Bor Row × Unit {0}) Bool} {s : Rows} (at : ℕ) (u : Rows) (f : F) (r : std.Option Row)
    → (xs : List Row) × (j : F) × YieldsThen (YieldsFirst rows_left) s xs r u × FoldsTo (λ p x q. CalledAt g p x false q) f xs j × MatchOption r ⊤ (λ x. (h : F) × CalledAt g j x true h)
    → ((x : Row) (b : Bool) (q : F) → CalledAt g f x b q → (q ≡ f) × (b ≡ starts_from at x))
    → r ≡ find (starts_from at) (rows_left s)
walk_finds {s} at u f r ran test =
    same r ∙ find_from_yields_List (starts_from at) u f r ran (YieldsList-from_first (λ x. x) rows_left (rows_left s) refl) test
  where
    same : (r : std.Option Row) → r ≡ option_map (λ x. x) r
    same (Some r) = refl
    same None = refl
