-- Which presented identifiers a string allows, by the tests of the code.
use Prim.Native.Nat.{ℕ}
use mathlib.Core.Path.{◌≡◌, refl, sym, ◌∙◌}
use mathlib.Core.Bool.{Bool, true, false, not, ◌&&◌, ◌||◌}
use mathlib.Core.Option.{Option, none, some}
use mathlib.Core.List.{List}
use lib.Dec.{ltb}
use Rattle.std.specs.List.{list_any}
use Rattle.octets.proofs.Cases.{clash}
use Rattle.rules.specs.Bytes.{any}
use Rattle.rules.specs.Der.{Member}
use Rattle.rules.specs.San.{GeneralName}
use Rattle.rules.specs.Constraints.{permitted, excluded}
use Rattle.rules.specs.Matching.{if_some, Form, subtrees_of, allowed, breaks_as}
use Rattle.reading.specs.Strings.{read_constraints}
use Rattle.der.specs.Runs.{names_of}
use Rattle.entries.specs.Entries.{form_of}
use Rattle.constrained.specs.Subtrees.{texts_of, texts_in, lies_in, reaches, restricting}
use Rattle.constrained.specs.Walks.{subtrees_left}
use Rattle.constrained.specs.declared.Sides.{Sides}
use Rattle.constrained.specs.declared.Subtrees.{Subtrees}
use Rattle.constrained.specs.declared.Identifier.{Identifier}
use Rattle.constrained.specs.declared.FormSubtrees.{FormSubtrees}
use Rattle.constrained.proofs.Meeting.{any_lies, any_reaches}

-- ---- whether there are subtrees

module _ (r : Sides) (p : Bool) (p_is : p ≡ not (ltb r.permitted.start r.permitted.end)) where
  pub any_permitted : not p ≡ true → not p ≡ restricting r
  unfolding restricting
  any_permitted q = go (ltb r.permitted.start r.permitted.end) p_is
    where
      go : (a : Bool) → p ≡ not a → not p ≡ (a || ltb r.excluded.start r.excluded.end)
      go true h = q
      go false h = clash (rw h at q) refl

  pub any_excluded : p ≡ true → (x : Bool) → x ≡ not (ltb r.excluded.start r.excluded.end) → not x ≡ restricting r
  unfolding restricting
  any_excluded q x x_is = rw x_is (go (ltb r.permitted.start r.permitted.end) (ltb r.excluded.start r.excluded.end) p_is)
    where
      go : (a b : Bool) → p ≡ not a → not (not b) ≡ (a || b)
      go true b h = clash q h
      go false true h = refl
      go false false h = refl

pub ruleset any_sides = (any_permitted, any_excluded)

-- ---- a presented identifier

module _ (f : FormSubtrees) where
  abbrev form : Form
  form = form_of f.form

  abbrev names : List (Member GeneralName)
  names = names_of read_constraints f.constraints.now

  abbrev inside : List (List ℕ)
  inside = subtrees_of form permitted names

  abbrev outside : List (List ℕ)
  outside = subtrees_of form excluded names

  abbrev reached : List ℕ → Bool
  reached text = any (λ t. form.reaches t text) outside

  abbrev within : List ℕ → Bool
  within text = any (λ t. form.inside t text) inside

  abbrev p? : Bool
  p? = ltb f.sides.permitted.start f.sides.permitted.end

  abbrev x? : Bool
  x? = ltb f.sides.excluded.start f.sides.excluded.end

  -- the walks over the two sides
  module _ (t : Subtrees) (same : t.bytes.now ≡ f.constraints.now) where
    pub permitted_texts : t.at ≡ f.sides.permitted.start → t.end ≡ f.sides.permitted.end → texts_of form (subtrees_left t) ≡ inside
    unfolding subtrees_left texts_in
    permitted_texts h k = rw (same, h, k) f.of_form.inside.texts

    pub excluded_texts : t.at ≡ f.sides.excluded.start → t.end ≡ f.sides.excluded.end → texts_of form (subtrees_left t) ≡ outside
    unfolding subtrees_left texts_in
    excluded_texts h k = rw (same, h, k) f.of_form.outside.texts

  -- without subtrees of the form every text is allowed
  pub all_allowed : restricting f.sides ≡ false → (text : List ℕ) → allowed form names text ≡ true
  unfolding restricting allowed
  all_allowed q text =
      rw (f.of_form.inside.any_there, f.of_form.outside.any_there) (go p? x? q)
    where
      go : (i o : Bool) → (i || o) ≡ false → ((not i && not o) || (form.id text && not (reached text) && (not i || within text))) ≡ true
      go false false d = refl
      go true o d = clash refl d
      go false true d = clash refl d

  module _ (any_there : restricting f.sides ≡ true) (text : List ℕ) where
    -- with them, the three conditions decide
    allowed_is : allowed form names text ≡ (form.id text && not (reached text) && (not p? || within text))
    unfolding restricting allowed
    allowed_is =
        rw (f.of_form.inside.any_there, f.of_form.outside.any_there) (go p? x? any_there)
      where
        go : (i o : Bool) → (i || o) ≡ true
            → ((not i && not o) || (form.id text && not (reached text) && (not i || within text)))
            ≡ (form.id text && not (reached text) && (not i || within text))
        go true o d = refl
        go false true d = refl
        go false false d = clash d refl

    -- "must be an SRV-ID"
    pub allowed_no_id : form.id text ≡ false → false ≡ allowed form names text
    allowed_no_id e = rw (allowed_is, e)

    module _ (id : Identifier) (same_form : id.form ≡ f.form) (same_text : id.name.text.now ≡ text) (t : Subtrees) (t_is : texts_of form (subtrees_left t) ≡ outside)
        (r : Bool) (r_is : r ≡ list_any (reaches (form_of id.form) id.name.text.now) (subtrees_left t)) where
      good : form.id text ≡ true
      good = rw (same_form, same_text) at id.is_one

      out_is : r ≡ reached text
      out_is = (rw (same_form, same_text) at r_is) ∙ any_reaches form text (subtrees_left t) ∙ rw t_is

      -- "lie in no excluded SRVName subtree"
      pub allowed_excluded : r ≡ true → false ≡ allowed form names text
      allowed_excluded e = rw (allowed_is, good, ← out_is, e)

      -- "and, if any permitted SRVName subtree exists, lie in one"
      module _ (e : r ≡ false) (p : Bool) (p_is : p ≡ not p?) where
        pub allowed_free : p ≡ true → p ≡ allowed form names text
        allowed_free q =
            let k : not p? ≡ true = sym p_is ∙ q in
            q ∙ rw (allowed_is, good, ← out_is, e, k)

        pub allowed_permitted : p ≡ false → (u : Subtrees) → texts_of form (subtrees_left u) ≡ inside
            → (b : Bool) → b ≡ list_any (lies_in (form_of id.form) id.name.text.now) (subtrees_left u) → b ≡ allowed form names text
        allowed_permitted q u u_is b b_is =
            let k : not p? ≡ false = sym p_is ∙ q in
            (rw (same_form, same_text) at b_is) ∙ any_lies form text (subtrees_left u) ∙ rw (u_is, allowed_is, good, ← out_is, e, k)

  -- ---- an entry

  module _ (m : GeneralName) where
    -- without subtrees of the form none breaks the string
    pub breaks_free : (r : Bool) → r ≡ restricting f.sides → r ≡ false → r ≡ breaks_as form names m
    unfolding breaks_as
    breaks_free r r_is q = q ∙ go (form.text m)
      where
        go : (o : Option (List ℕ)) → false ≡ if_some o (λ text. not (allowed form names text))
        go none = refl
        go (some c) = rw (all_allowed (sym r_is ∙ q) c)

    -- with them a text breaks it that is not allowed
    pub breaks_other : form.text m ≡ none → false ≡ breaks_as form names m
    unfolding breaks_as
    breaks_other e = rw e

    pub breaks_text : (text : List ℕ) → form.text m ≡ some text → (r : Bool) → r ≡ allowed form names text → not r ≡ breaks_as form names m
    unfolding breaks_as
    breaks_text text e r r_is = rw (e, ← r_is)

pub ruleset breaking = (breaks_free, breaks_other, breaks_text)
