-- The writer of SAN values is made of its names.
use Prim.Native.Nat.{ℕ, ◌≤◌}
use mathlib.Core.Path.{◌≡◌, refl, ap, ◌∙◌}
use mathlib.Core.List.{List, [], ◌∷◌, ◌++◌, map}
use native.Mathlib.Omega.{arith}
use lib.ListN.{length}
use lib.Seq.{take_all}
use Rattle.rules.specs.Bytes.{sum, cut}
use Rattle.rules.specs.Numbers.{san_limit}
use Rattle.rules.specs.Der.{element, run}
use Rattle.rules.specs.San.{write_name}
use Rattle.rules.specs.Writing.{Identifier, identifier, identifiers, name_for, san_writer}
use Rattle.output.specs.Output.{start}
use Rattle.output.proofs.Laws.{element_is}
use Rattle.writing.specs.Parts.{Parts}
use Rattle.san_writer.specs.Names.{identifier_of, identifier_bytes}
use Rattle.san_writer.specs.Measuring.{name_length, name_within}

-- the identifier of one text
pub of_one : (kind : ℕ) (ns ts : List ℕ) → length ns ≡ 1 → sum ns ≡ length ts → identifier_of kind (cut ns ts) ≡ identifier kind ts
unfolding cut sum
of_one kind [] ts h e = absurd (omega arith)
of_one kind (n ∷ []) ts h e = ap (identifier kind) (take_all n ts (omega arith))
of_one kind (n ∷ m ∷ ns) ts h e = absurd (omega arith)

next : (kind : ℕ) (kinds : List ℕ) (own texts : List (List ℕ)) → length own ≡ 1 → identifiers (kind ∷ kinds) (own ++ texts) ≡ identifier_of kind own ∷ identifiers kinds texts
unfolding identifiers
next kind kinds [] texts h = absurd (omega arith)
next kind kinds (t ∷ []) texts h = refl
next kind kinds (t ∷ s ∷ own) texts h = absurd (omega arith)

run_names : (l : List Identifier) → run write_name (map name_for l) ≡ run identifier_bytes l
unfolding run identifier_bytes
run_names [] = refl
run_names (i ∷ l) = ap (λ r. write_name (name_for i) ++ r) (run_names l)

written : (l : List Identifier) → san_writer.write l ≡ start 0x30 (length (run identifier_bytes l)) ++ run identifier_bytes l
written l = ap (element 0x30) (run_names l) ∙ element_is 0x30 (run identifier_bytes l) (length (run identifier_bytes l)) refl

longer : (kind : ℕ) (own : List (List ℕ)) → length own ≡ 1 → sum (map length own) ≤ length (identifier_bytes (identifier_of kind own))
unfolding identifier_bytes sum
longer kind [] h = absurd (omega arith)
longer kind (t ∷ []) h = omega (arith, name_length kind t, name_within kind (length t))
longer kind (t ∷ s ∷ own) h = absurd (omega arith)

pub san_parts : Parts san_writer identifier_of identifier_bytes (start 0x30) 1 san_limit
unfolding identifiers
san_parts = record {
  per_is = refl;
  per_some = omega arith;
  limit_is = refl;
  limit_small = omega arith;
  none = λ texts. refl;
  next = next;
  written = written;
  longer = λ kind own h g. longer kind own h;
}
