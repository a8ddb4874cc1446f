-- One reading, `ReadsExactly`: proved once over a grammar, and of the three strings.
use Prim.Native.Nat.{ℕ, suc, ◌+◌}
use Rattle.std.specs.Prelude.{◌≡◌, ◌↔◌}
use Rattle.std.proofs.Math.Path.{refl, ap}
use Rattle.std.proofs.Common.{sym, ◌∙◌, length-append}
use Rattle.std.proofs.Math.Option.{Option, none, some}
use mathlib.Core.List.{List, [], ◌∷◌}
use Rattle.std.proofs.Math.ListN.{length}
use Rattle.rules.specs.Der.{Member, Group, groups, header, run, rows_of_members, rows_of_groups, Grammar, Writes}
use Rattle.rules.specs.San.{GeneralName, rows_of_names, write_name, san_grammar}
use Rattle.rules.specs.Subject.{write_attribute, attribute_row, subject_grammar}
use Rattle.rules.specs.Constraints.{write_subtree, subtree_row, constraints_grammar}
use Rattle.rules.specs.declared.Row.{Row}
use Rattle.reading.specs.Reader.{read_element}
use Rattle.reading.specs.Strings.{read_san, flat, read_sets, read_subject, read_sides, read_constraints}
use Rattle.reading.specs.Answers.{no_some}
use Rattle.reading.specs.Codec.{Codec}
use Rattle.reading.proofs.Codec.{unique}
use Rattle.reading.specs.Groups.{members, flat_groups}
use Rattle.reading.proofs.Codecs.{san_c, subject_c, constraints_c}
use Rattle.reading.specs.OneReading.{ReadsExactly}

module _ {Name : Type 0} (G : Grammar Name) {read : List ℕ → Option (List Name)} (C : Codec read G.good G.write) where
  reads : (b : List ℕ) (l : List Name) → (read b ≡ some l) ↔ Writes G l b
  reads b l = (
    λ e. record { good = (C.sound b e).0; bytes_are = (C.sound b e).1 },
    λ w. rw w.bytes_are (C.complete l w.good),
  )

  one_reading : read [] ≡ none → ((l : List Name) → length (G.rows l) ≡ length l) → ReadsExactly G read
  one_reading empty count = record {
    exactly = reads;
    only = λ l l' b w w'. unique C l l' w.good w'.good (sym w.bytes_are ∙ w'.bytes_are);
    once = λ l b b' w w'. w.bytes_are ∙ sym w'.bytes_are;
    present = λ l w. no_some (sym empty ∙ (reads [] l).1 w);
    count = count;
  }

-- ---- one row for each name

names_count : (at i : ℕ) (l : List GeneralName) → length (rows_of_names at i l) ≡ length l
unfolding rows_of_names
names_count at i [] = refl
names_count at i (n ∷ l) = ap suc (names_count (at + length (write_name n)) (suc i) l)

module _ {A : Type 0} (write : A → List ℕ) (row : ℕ → ℕ → A → Row) where
  members_count : (at number k : ℕ) (l : List A) → length (rows_of_members write row at number l) ≡ length (members k l)
  unfolding rows_of_members
  members_count at number k [] = refl
  members_count at number k (a ∷ l) = ap suc (members_count (at + length (write a)) number k l)

  flat_count : (at : ℕ) (gs : List (Group A)) → length (rows_of_groups write row at gs) ≡ length (flat gs)
  unfolding rows_of_groups flat
  flat_count at [] = refl
  flat_count at (g ∷ gs) =
      let content = run write g.members in
      simp (length-append, members_count (at + header content) g.number g.number g.members, flat_count (at + header content + length content) gs)

  groups_count : (at : ℕ) (l : List (Member A)) → length (rows_of_groups write row at (groups l)) ≡ length l
  groups_count at l = flat_count at (groups l) ∙ ap length (flat_groups l)

-- ---- the three strings

pub san_reading : ReadsExactly san_grammar read_san
unfolding read_san read_element
san_reading = one_reading san_grammar san_c refl (λ l. names_count _ 0 l)

pub subject_reading : ReadsExactly subject_grammar read_subject
unfolding read_subject read_sets read_element
subject_reading = one_reading subject_grammar subject_c refl (λ l. groups_count write_attribute attribute_row _ l)

pub constraints_reading : ReadsExactly constraints_grammar read_constraints
unfolding read_constraints read_sides read_element
constraints_reading = one_reading constraints_grammar constraints_c refl (λ l. groups_count write_subtree subtree_row _ l)
