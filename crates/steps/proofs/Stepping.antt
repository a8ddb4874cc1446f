-- What the steps return, by their own tests.
use Prim.Native.Nat.{ℕ, ◌+◌, ◌%◌, ◌≤◌, ◌<◌}
use mathlib.Core.Path.{◌≡◌, sym, ap, ◌∙◌}
use mathlib.Core.List.{List}
use native.Mathlib.Omega.{arith}
use lib.ListN.{length}
use borrow.Author.Tests.{lt-ltb, le-ltb, eq-eqb, ne_eqb}
use Rattle.std.specs.Prelude.{Result, Ok, Err, Some, None}
use Rattle.std.specs.Result.{result_ok}
use Rattle.rules.specs.Bytes.{some?}
use Rattle.reading.specs.Reader.{as_is}
use Rattle.der.specs.Places.{Answer, element_at, tagged_at}
use Rattle.der.specs.Reads.{Read, found_read, tagged_read}
use Rattle.der.specs.declared.Element.{Element}
use Rattle.der.specs.declared.ElementError.{ElementError}
use Rattle.entries.specs.declared.Name.{Name}
use Rattle.entries.specs.declared.Unreadable.{Unreadable}
use Rattle.steps.specs.Steps.{source_of, next_group, cursor, shown, set_opened, side_opened, first_in, start, shape_at, row_start, attribute_next, subtree_next, after_name, entry, step}
use Rattle.steps.specs.declared.Cursor.{Cursor}
use Rattle.steps.specs.declared.Source.{Source}
use Rattle.steps.specs.declared.Source.TheVariants.{San, Subject, Constraints}

-- what is there of a result is what the result is
pub there : {A E : Type 0} (r : Result A E) (x : A) → result_ok r ≡ Some x → r ≡ Ok x
there (Ok y) x e = let k : y ≡ x = cc in ap Ok k
there (Err why) x e = let z : ◌≡◌ {A = ℕ} 0 1 = cc in absurd (omega arith)

-- ---- which string

module _ (which : ℕ) where
  pub source_san : which ≡ 0 → San ≡ source_of which
  source_san e = rw (eq-eqb which 0 e)

  pub source_subject : which ≡ 1 → Subject ≡ source_of which
  source_subject e = rw e

  pub source_constraints : (which ≡ 0 → ⊥) → (which ≡ 1 → ⊥) → Constraints ≡ source_of which
  source_constraints e f = rw (ne_eqb which 0 e, ne_eqb which 1 f)

-- ---- groups, and the parts that they stand in

pub group_next : (g at : ℕ) → g < at → g + 1 ≡ next_group g at
unfolding next_group
group_next g at h = rw (lt-ltb g at h)

pub group_last : (g at : ℕ) → at ≤ g → g ≡ next_group g at
unfolding next_group
group_last g at h = rw (le-ltb g at h)

module _ (s : List ℕ) (at : ℕ) (c : Cursor) (e : Answer) where
  module _ (group : ℕ) (e_is : e ≡ tagged_at s at (length s) 0x31) where
    pub set_none : (why : ElementError) → e ≡ Err why → c ≡ cursor at at group → c ≡ set_opened s at group
    unfolding set_opened
    set_none why q c_is = c_is ∙ rw (← e_is, q)

    pub set_found : (x : Element) → e ≡ Ok x → c ≡ cursor x.start x.next group → c ≡ set_opened s at group
    unfolding set_opened
    set_found x q c_is = c_is ∙ rw (← e_is, q)

  module _ (e_is : e ≡ element_at s at (length s)) where
    pub side_none : (why : ElementError) → e ≡ Err why → c ≡ cursor at at 0 → c ≡ side_opened s at
    unfolding side_opened
    side_none why q c_is = c_is ∙ rw (← e_is, q)

    pub side_found : (x : Element) → e ≡ Ok x → (g : ℕ) → g ≡ x.tag % 2 → c ≡ cursor x.start x.next g → c ≡ side_opened s at
    unfolding side_opened
    side_found x q g g_is c_is = c_is ∙ rw (← e_is, q, g_is)

-- ---- the first name

module _ (source : Source) (s : List ℕ) (c : Cursor) (e : Answer) (e_is : e ≡ tagged_at s 0 (length s) 0x30) where
  pub start_none : (why : ElementError) → e ≡ Err why → c ≡ cursor 0 0 0 → c ≡ start source s
  unfolding start
  start_none why q c_is = c_is ∙ rw (← e_is, q)

  module _ (x : Element) (q : e ≡ Ok x) where
    start_found : c ≡ first_in source s x → c ≡ start source s
    unfolding start
    start_found c_is = c_is ∙ rw (← e_is, q)

    pub start_san : source ≡ San → c ≡ cursor x.start x.next 0 → c ≡ start source s
    start_san f c_is = start_found (rw f c_is)

    pub start_subject : source ≡ Subject → c ≡ set_opened s x.start 0 → c ≡ start source s
    start_subject f c_is = start_found (rw f c_is)

    pub start_constraints : source ≡ Constraints → c ≡ side_opened s x.start → c ≡ start source s
    start_constraints f c_is = start_found (rw f c_is)

    pub start_fits : x.start ≤ length s
    start_fits =
        let d = tagged_read s (length s) (omega arith) 0 (omega arith) 0x30 (as_is some?) e e_is x q in
        omega (arith, d.body, d.rest)

-- ---- a name, and what follows it

module _ (s : List ℕ) (n end group : ℕ) (c : Cursor) where
  pub attribute_last : n ≡ end → (g : ℕ) → g ≡ next_group group n → c ≡ set_opened s n g → c ≡ attribute_next s n end group
  unfolding attribute_next
  attribute_last e g g_is c_is = c_is ∙ rw (eq-eqb n end e, g_is)

  pub attribute_on : (n ≡ end → ⊥) → c ≡ cursor n end group → c ≡ attribute_next s n end group
  unfolding attribute_next
  attribute_on e c_is = c_is ∙ rw (ne_eqb n end e)

  pub subtree_last : n ≡ end → c ≡ side_opened s n → c ≡ subtree_next s n end group
  unfolding subtree_next
  subtree_last e c_is = c_is ∙ rw (eq-eqb n end e)

  pub subtree_on : (n ≡ end → ⊥) → c ≡ cursor n end group → c ≡ subtree_next s n end group
  unfolding subtree_next
  subtree_on e c_is = c_is ∙ rw (ne_eqb n end e)

module _ (source : Source) (s : List ℕ) (c : Cursor) where
  pub step_outside : length s < c.end → None ≡ step source s c
  unfolding step
  step_outside h = rw (lt-ltb (length s) c.end h)

  module _ (fits : c.end ≤ length s) where
    pub step_past : c.end < c.at → None ≡ step source s c
    unfolding step
    step_past h = rw (le-ltb (length s) c.end fits, lt-ltb c.end c.at h)

    module _ (h : c.at ≤ c.end) (e : Answer) (e_is : e ≡ element_at s c.at c.end) where
      pub step_none : (why : ElementError) → e ≡ Err why → None ≡ step source s c
      unfolding step entry
      step_none why q = rw (le-ltb (length s) c.end fits, le-ltb c.end c.at h, ← e_is, q)

      module _ (x : Element) (q : e ≡ Ok x) where
        element : Read s c.at c.end x.tag x.start x.next
        element = found_read s c.end fits c.at h x (sym e_is ∙ q)

        pub element_body : x.start ≤ x.next
        element_body = element.body

        pub element_fits : x.next ≤ length s
        element_fits = omega (arith, element.rest)

        pub element_later : c.at ≤ x.next
        element_later = omega (arith, element.head, element.body)

        module _ (m : Result Name Unreadable) (m_is : m ≡ shape_at source s x) where
          pub step_unreadable : (why : Unreadable) → m ≡ Err why → None ≡ step source s c
          unfolding step entry
          step_unreadable why f = rw (le-ltb (length s) c.end fits, le-ltb c.end c.at h, ← e_is, q, ← m_is, f)

          pub step_shows : (y : Name) → m ≡ Ok y → (b : ℕ) → b ≡ row_start source c.at x.start → (d : Cursor) → d ≡ after_name source s x.next c.end c.group
              → Some (shown y.kind b x.next c.group d) ≡ step source s c
          unfolding step entry
          step_shows y f b b_is d d_is = rw (le-ltb (length s) c.end fits, le-ltb c.end c.at h, ← e_is, q, ← m_is, f, b_is, d_is)
