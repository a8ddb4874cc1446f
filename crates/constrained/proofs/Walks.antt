-- A validated name and its text, and one step of a walk over names.
use Prim.Native.Nat.{ℕ, ◌-◌, ◌≤◌, ◌<◌}
use mathlib.Core.Path.{◌≡◌, refl, ◌∙◌}
use mathlib.Core.Option.{none, some}
use mathlib.Core.List.{[], ◌∷◌}
use native.Mathlib.Omega.{arith}
use lib.ListN.{take, drop}
use Rattle.std.specs.Prelude as std
use Rattle.std.specs.Prelude.{Some, None}
use Rattle.std.specs.Iterator.{YieldsFirstBy}
use Rattle.std.proofs.lemmas.Iterator.{YieldsList}
use Rattle.std.proofs.lemmas.Iterator.Consumers.{YieldsList-from_first}
use Rattle.rules.specs.San.{GeneralName}
use Rattle.reading.specs.Strings.{read_name, read_subtree}
use Rattle.reading.specs.Answers.{some_of}
use Rattle.der.specs.Places.{element_at}
use Rattle.der.specs.Reads.{part_is}
use Rattle.der.specs.Runs.{start_of, end_of, no_items}
use Rattle.entries.specs.Entries.{form_of, whole_at, text_place}
use Rattle.entries.specs.declared.NameForm.{NameForm}
use Rattle.entries.specs.declared.NameForm.TheVariants.{Srv, Dns}
use Rattle.entries.proofs.Steps.{with_entry, with_subtree}
use Rattle.entries.proofs.Texts.{OwnText, own_srv, own_tagged, text_there, text_within, text_not_there}
use Rattle.constrained.specs.Walks.{name_in, entries_left, subtrees_left}
use Rattle.constrained.specs.declared.ValidName.{ValidName}
use Rattle.constrained.specs.declared.Entries.{Entries}
use Rattle.constrained.specs.declared.Subtrees.{Subtrees}

-- ---- the text of a name

form_own : (form : NameForm) → OwnText (form_of form).text
form_own Srv = own_srv
form_own Dns = own_tagged 0x82

module _ (n : ValidName) where
  -- the name that a part holds
  pub name_is : (m : GeneralName) → whole_at n.bytes.now n.start n.end ≡ some m → name_in n ≡ m
  unfolding name_in
  name_is m e = rw e

  module _ (form : NameForm) (r : std.Option ℕ) (r_is : r ≡ text_place (form_of form).text n.bytes.now n.start n.end) where
    pub text_absent : r ≡ None → (form_of form).text (name_in n) ≡ none
    text_absent q =
        some_of (whole_at n.bytes.now n.start n.end) n.whole λ m p.
        rw (name_is m p) (text_not_there (form_of form).text n.bytes.now n.start n.end r r_is m p q)

    module _ (x : ℕ) (found : r ≡ Some x) where
      pub text_bound : x ≤ n.end
      text_bound =
          some_of (whole_at n.bytes.now n.start n.end) n.whole λ m p.
          text_within (form_of form).text n.bytes.now n.start n.end r r_is m p (form_own form) (omega (arith, n.room)) n.fits x found

      pub text_found : (form_of form).text (name_in n) ≡ some (take (n.end - x) (drop x n.bytes.now))
      text_found =
          some_of (whole_at n.bytes.now n.start n.end) n.whole λ m p.
          rw (name_is m p, part_is n.bytes.now x n.end text_bound)
          (text_there (form_of form).text n.bytes.now n.start n.end r r_is m p (form_own form) (omega (arith, n.room)) n.fits x found)

pub ruleset texts = (text_absent, text_bound, text_found)

-- ---- one step

module _ (s : Entries) where
  pub entries_none : s.end ≤ s.at → entries_left s ≡ []
  unfolding entries_left
  entries_none h =
      let k : s.at ≡ s.end = omega (arith, h, s.run.order) in
      rw (k, no_items read_name s.bytes.now s.end)

  pub entries_step : s.at < s.end → (r : ValidName) (t : Entries) → r.start ≡ s.at
      → r.end ≡ end_of (element_at s.bytes.now s.at s.end) → r.bytes.now ≡ s.bytes.now
      → t.bytes.now ≡ s.bytes.now → t.at ≡ r.end → t.end ≡ s.end → entries_left s ≡ name_in r ∷ entries_left t
  unfolding entries_left
  entries_step more r t b_is n_is same t_same t_at t_end =
      with_entry s.bytes.now s.at s.end s.run more r.end n_is λ m p q.
      let whole : whole_at r.bytes.now r.start r.end ≡ some m = rw (same, b_is) p in
      q ∙ rw (name_is r m whole, t_same, t_at, t_end)

pub ruleset entry_steps = (entries_none, entries_step)

module _ (s : Subtrees) where
  pub subtrees_none : s.end ≤ s.at → subtrees_left s ≡ []
  unfolding subtrees_left
  subtrees_none h =
      let k : s.at ≡ s.end = omega (arith, h, s.run.order) in
      rw (k, no_items read_subtree s.bytes.now s.end)

  pub subtrees_step : s.at < s.end → (r : ValidName) (t : Subtrees) → r.start ≡ start_of (element_at s.bytes.now s.at s.end)
      → r.end ≡ end_of (element_at s.bytes.now s.at s.end) → r.bytes.now ≡ s.bytes.now
      → t.bytes.now ≡ s.bytes.now → t.at ≡ r.end → t.end ≡ s.end → subtrees_left s ≡ name_in r ∷ subtrees_left t
  unfolding subtrees_left
  subtrees_step more r t b_is n_is same t_same t_at t_end =
      with_subtree s.bytes.now s.at s.end s.run more r.end n_is r.start b_is λ m h p q.
      let whole : whole_at r.bytes.now r.start r.end ≡ some m = rw same p in
      q ∙ rw (name_is r m whole, t_same, t_at, t_end)

pub ruleset subtree_steps = (subtrees_none, subtrees_step)

-- ---- what the walk over entries gives in all

pub all_entries : (s : Entries) → YieldsList (YieldsFirstBy name_in entries_left) name_in s (entries_left s)
all_entries s = YieldsList-from_first name_in entries_left _ refl
