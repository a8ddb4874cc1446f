-- An identifier and a subtree.
use mathlib.Core.Path.{◌≡◌, refl, ◌∙◌}
use mathlib.Core.Bool.{Bool, true, false, ◌||◌}
use mathlib.Core.Option.{Option, none, some}
use mathlib.Core.List.{List, [], ◌∷◌}
use Prim.Native.Nat.{ℕ}
use Rattle.std.specs.List.{list_any}
use Rattle.rules.specs.Bytes.{any}
use Rattle.rules.specs.San.{GeneralName}
use Rattle.rules.specs.Names.{dns_id, srv_id, dns_within, dns_reaches, in_subtree}
use Rattle.rules.specs.Matching.{with_some, if_some, Form}
use Rattle.entries.specs.Entries.{form_of}
use Rattle.entries.specs.declared.NameForm.{NameForm}
use Rattle.entries.specs.declared.NameForm.TheVariants.{Srv, Dns}
use Rattle.constrained.specs.Subtrees.{lies_in, reaches, texts_of}

module _ (form : NameForm) (name : List ℕ) (m : GeneralName) where
  -- a subtree of another form
  pub lies_other : (form_of form).text m ≡ none → false ≡ lies_in (form_of form) name m
  unfolding lies_in
  lies_other e = rw e

  pub reaches_other : (form_of form).text m ≡ none → false ≡ reaches (form_of form) name m
  unfolding reaches
  reaches_other e = rw e

  -- one of the form
  module _ (text : List ℕ) (e : (form_of form).text m ≡ some text) (r : Bool) where
    pub lies_srv : form ≡ Srv → r ≡ in_subtree text name → r ≡ lies_in (form_of form) name m
    unfolding lies_in
    lies_srv f h = h ∙ rw (e, f)

    pub lies_dns : form ≡ Dns → r ≡ dns_within text name → r ≡ lies_in (form_of form) name m
    unfolding lies_in
    lies_dns f h = h ∙ rw (e, f)

    pub reaches_srv : form ≡ Srv → r ≡ in_subtree text name → r ≡ reaches (form_of form) name m
    unfolding reaches
    reaches_srv f h = h ∙ rw (e, f)

    pub reaches_dns : form ≡ Dns → r ≡ dns_reaches text name → r ≡ reaches (form_of form) name m
    unfolding reaches
    reaches_dns f h = h ∙ rw (e, f)

pub id_dns : (form : NameForm) (name : List ℕ) → form ≡ Dns → (form_of form).id name ≡ true → dns_id name ≡ true
id_dns form name f e = rw f at e

pub id_srv : (form : NameForm) (name : List ℕ) → form ≡ Srv → (form_of form).id name ≡ true → srv_id name ≡ true
id_srv form name f e = rw f at e

pub ruleset lies = (lies_other, lies_srv, lies_dns, id_srv)

pub ruleset reaching = (reaches_other, reaches_srv, reaches_dns, id_srv, id_dns)

-- ---- among many subtrees, only those of the form count

module _ (form : Form) (name : List ℕ) where
  pub any_lies : (l : List GeneralName) → list_any (lies_in form name) l ≡ any (λ t. form.inside t name) (texts_of form l)
  unfolding lies_in texts_of
  any_lies [] = refl
  any_lies (m ∷ l) = rw (any_lies l) (go (form.text m))
    where
      go : (o : Option (List ℕ)) → (if_some o (λ t. form.inside t name) || any (λ t. form.inside t name) (texts_of form l)) ≡ any (λ t. form.inside t name) (with_some o (texts_of form l))
      go none = refl
      go (some t) = refl

  pub any_reaches : (l : List GeneralName) → list_any (reaches form name) l ≡ any (λ t. form.reaches t name) (texts_of form l)
  unfolding reaches texts_of
  any_reaches [] = refl
  any_reaches (m ∷ l) = rw (any_reaches l) (go (form.text m))
    where
      go : (o : Option (List ℕ)) → (if_some o (λ t. form.reaches t name) || any (λ t. form.reaches t name) (texts_of form l)) ≡ any (λ t. form.reaches t name) (with_some o (texts_of form l))
      go none = refl
      go (some t) = refl

-- ---- a walk over subtrees, by the test of each

-- those that are left have one that passes where all have one
unfoldable pub AnyLeft : (GeneralName → Bool) → List GeneralName → List GeneralName → Type 0
AnyLeft p all left = list_any p left ≡ list_any p all

module _ (p : GeneralName → Bool) (all : List GeneralName) where
  pub any_begin : AnyLeft p all all
  unfolding AnyLeft
  any_begin = refl

  module _ (left : List GeneralName) (inv : AnyLeft p all left) where
    pub any_end : left ≡ [] → false ≡ list_any p all
    unfolding AnyLeft
    any_end e = rw e at inv

    module _ (m : GeneralName) (rest : List GeneralName) (step : left ≡ m ∷ rest) (r : Bool) (r_is : r ≡ p m) where
      pub any_here : r ≡ true → true ≡ list_any p all
      unfolding AnyLeft
      any_here q = rw (step, ← r_is, q) at inv

      pub any_next : r ≡ false → AnyLeft p all rest
      unfolding AnyLeft
      any_next q = rw (step, ← r_is, q) at inv

pub ruleset any_laws = (any_begin, any_end, any_here, any_next)
