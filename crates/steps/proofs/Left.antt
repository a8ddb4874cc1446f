-- Each step goes on by a byte at least and stays in the string, so that a walk ends: what it has left.
use Prim.Native.Nat.{ℕ, zero, suc, ◌-◌, ◌%◌, ◌≤◌, ◌<◌}
use mathlib.Core.Path.{◌≡◌, refl, sym, ap, ◌∙◌}
use mathlib.Core.Bool.{Bool, true, false, cond}
use mathlib.Core.List.{List, [], ◌∷◌}
use native.Mathlib.Omega.{arith}
use lib.ListN.{length}
use lib.Dec.{ltb, eqb}
use borrow.Author.Tests.{ltb-false}
use Rattle.std.specs.Prelude.{Result, Ok, Err, Option, Some, None}
use Rattle.rules.specs.declared.Row.{Row}
use Rattle.rules.specs.Bytes.{some?}
use Rattle.reading.specs.Reader.{as_is}
use Rattle.der.specs.Places.{Answer, element_at, tagged_at}
use Rattle.der.specs.Reads.{found_read, tagged_read}
use Rattle.der.specs.declared.Element.{Element}
use Rattle.entries.specs.declared.Name.{Name}
use Rattle.entries.specs.declared.Unreadable.{Unreadable}
use Rattle.steps.specs.Steps.{next_group, cursor, shown, or_else, set_opened, side_opened, shape_at, row_start, attribute_next, subtree_next, after_name, entry, step}
use Rattle.steps.specs.Rows.{row_then, rows_by, rows_from}
use Rattle.steps.specs.Walks.{Walk, done, more}
use Rattle.steps.specs.declared.Cursor.{Cursor}
use Rattle.steps.specs.declared.Source.{Source}
use Rattle.steps.specs.declared.Source.TheVariants.{San, Subject, Constraints}
use Rattle.steps.specs.declared.Step.{Step}

-- a cursor no earlier than n, in the string
abbrev From : List ℕ → ℕ → Cursor → Type 0
From s n c = (n ≤ c.at) × (c.at ≤ length s)

set_from : (s : List ℕ) (n group : ℕ) → n ≤ length s → From s n (set_opened s n group)
unfolding set_opened
set_from s n group h = go (tagged_at s n (length s) 0x31) refl
  where
    go : (e : Answer) → tagged_at s n (length s) 0x31 ≡ e → From s n (or_else (cursor n n group) e (λ x. cursor x.start x.next group))
    go (Err why) f = (omega arith, h)
    go (Ok x) f =
        let d = tagged_read s (length s) (omega arith) n h 0x31 (as_is some?) (tagged_at s n (length s) 0x31) refl x f in
        (omega (arith, d.head), omega (arith, d.body, d.rest))

side_from : (s : List ℕ) (n : ℕ) → n ≤ length s → From s n (side_opened s n)
unfolding side_opened
side_from s n h = go (element_at s n (length s)) refl
  where
    go : (e : Answer) → element_at s n (length s) ≡ e → From s n (or_else (cursor n n 0) e (λ x. cursor x.start x.next (x.tag % 2)))
    go (Err why) f = (omega arith, h)
    go (Ok x) f =
        let d = found_read s (length s) (omega arith) n h x f in
        (omega (arith, d.head), omega (arith, d.body, d.rest))

after_from : (source : Source) (s : List ℕ) (n end group : ℕ) → n ≤ length s → From s n (after_name source s n end group)
unfolding attribute_next subtree_next
after_from San s n end group h = (omega arith, h)
after_from Subject s n end group h = go (eqb n end)
  where
    go : (t : Bool) → From s n (cond t (set_opened s n (next_group group n)) (cursor n end group))
    go true = set_from s n _ h
    go false = (omega arith, h)
after_from Constraints s n end group h = go (eqb n end)
  where
    go : (t : Bool) → From s n (cond t (side_opened s n) (cursor n end group))
    go true = side_from s n h
    go false = (omega arith, h)

module _ (source : Source) (s : List ℕ) where
  pub advances : (c : Cursor) (t : Step) → step source s c ≡ Some t → (c.at < t.next.at) × (t.next.at ≤ length s)
  unfolding step entry
  advances c t = outside (ltb (length s) c.end) refl
    where
      Goal : Type 0
      Goal = (c.at < t.next.at) × (t.next.at ≤ length s)

      never : ◌≡◌ {A = Option Step} None (Some t) → Goal
      never e = let z : ◌≡◌ {A = ℕ} 0 1 = cc in absurd (omega arith)

      named : (x : Element) → c.at < x.next → x.next ≤ length s → (m : Result Name Unreadable)
          → or_else None m (λ y. Some (shown y.kind (row_start source c.at x.start) x.next c.group (after_name source s x.next c.end c.group))) ≡ Some t → Goal
      named x l h (Err why) e = never e
      named x l h (Ok y) e =
          let d = after_from source s x.next c.end c.group h in
          let k : shown y.kind (row_start source c.at x.start) x.next c.group (after_name source s x.next c.end c.group) ≡ t = cc in
          rw (← k) (omega (arith, d.0), d.1)

      read : c.end ≤ length s → c.at ≤ c.end → (e : Answer) → element_at s c.at c.end ≡ e
          → or_else None e (λ x. or_else None (shape_at source s x) (λ y. Some (shown y.kind (row_start source c.at x.start) x.next c.group (after_name source s x.next c.end c.group)))) ≡ Some t
          → Goal
      read fits h (Err why) f e = never e
      read fits h (Ok x) f e =
          let d = found_read s c.end fits c.at h x f in
          named x (omega (arith, d.head, d.body)) (omega (arith, d.rest)) (shape_at source s x) e

      past : (q : Bool) → ltb c.end c.at ≡ q → c.end ≤ length s → cond q None (entry source s c.at c.end c.group) ≡ Some t → Goal
      past true f fits e = never e
      past false f fits e = read fits (ltb-false c.end c.at f) (element_at s c.at c.end) refl e

      outside : (q : Bool) → ltb (length s) c.end ≡ q → cond q None (cond (ltb c.end c.at) None (entry source s c.at c.end c.group)) ≡ Some t → Goal
      outside true f e = never e
      outside false f e = past (ltb c.end c.at) refl (ltb-false (length s) c.end f) e

  -- no step is left where no byte is
  last : (c : Cursor) (rest : Cursor → List Row) → length s - c.at ≤ 0 → row_then rest (step source s c) ≡ []
  last c rest h = go (step source s c) refl
    where
      go : (o : Option Step) → step source s c ≡ o → row_then rest o ≡ []
      go None f = refl
      go (Some t) f = let d = advances c t f in absurd (omega (arith, d.0, d.1))

  -- the rows of a step, where what rests may be told in two ways
  step_same : (c : Cursor) (rest others : Cursor → List Row) → ((t : Step) → step source s c ≡ Some t → rest t.next ≡ others t.next)
      → row_then rest (step source s c) ≡ row_then others (step source s c)
  step_same c rest others same = go (step source s c) refl
    where
      go : (o : Option Step) → step source s c ≡ o → row_then rest o ≡ row_then others o
      go None f = refl
      go (Some t) f = ap {B = List Row} (t.row ∷◌) (same t f)

  -- as many steps as bytes are left are enough
  enough : (n m : ℕ) (c : Cursor) → length s - c.at ≤ n → length s - c.at ≤ m → rows_by (step source s) n c ≡ rows_by (step source s) m c
  unfolding rows_by
  enough zero zero c h k = refl
  enough zero (suc m) c h k = sym (last c (rows_by (step source s) m) h)
  enough (suc n) zero c h k = last c (rows_by (step source s) n) k
  enough (suc n) (suc m) c h k =
      step_same c (rows_by (step source s) n) (rows_by (step source s) m) λ t f.
      let d = advances c t f in
      enough n m t.next (omega (arith, d.0, d.1)) (omega (arith, d.0, d.1))

  module _ (c : Cursor) (o : Option Step) (o_is : o ≡ step source s c) where
    turn : rows_from source s c ≡ row_then (rows_from source s) o
    unfolding rows_from rows_by
    turn =
        rw o_is
        (enough (length s - c.at) (suc (length s)) c (omega arith) (omega arith)
        ∙ step_same c (rows_by (step source s) (length s)) (λ d. rows_by (step source s) (length s - d.at) d) λ t f.
        enough (length s) (length s - t.next.at) t.next (omega arith) (omega arith))

    pub left_none : o ≡ None → rows_from source s c ≡ []
    left_none e = turn ∙ rw e

    pub left_more : (t : Step) → o ≡ Some t → rows_from source s c ≡ t.row ∷ rows_from source s t.next
    left_more t e = turn ∙ rw e

-- a walk that shows a list shows its rows, and no others
pub walk_all : {A : Type 0} (source : Source) (s : List ℕ) {c : Cursor} {l : List A} {rows : List Row} → Walk (step source s) c l rows → rows_from source s c ≡ rows
walk_all source s (done e) = left_none source s _ _ refl e
walk_all source s (more e p w) = left_more source s _ _ refl _ e ∙ (λ i. p i ∷ walk_all source s w i)
