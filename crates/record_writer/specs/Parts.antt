-- The writer of records is made of its references.
use Prim.Native.Nat.{ℕ, ◌≤◌}
use mathlib.Core.Path.{◌≡◌, refl}
use mathlib.Core.Bool.{true}
use mathlib.Core.List.{List, [], ◌∷◌, ◌++◌, map}
use native.Mathlib.Omega.{arith}
use lib.ListN.{length}
use Rattle.rules.specs.Bytes.{sum}
use Rattle.rules.specs.Numbers.{records_limit}
use Rattle.rules.specs.Records.{reference}
use Rattle.rules.specs.Writing.{references, record_for, good_to_write, record_writer}
use Rattle.reading.specs.Written.{texts_fit, is_good, record_length}
use Rattle.writing.specs.Parts.{Parts}
use Rattle.record_writer.specs.Names.{reference_of_texts, no_head}

next : (kind : ℕ) (kinds : List ℕ) (own texts : List (List ℕ)) → length own ≡ 2 → references (kind ∷ kinds) (own ++ texts) ≡ reference_of_texts kind own ∷ references kinds texts
unfolding references
next kind kinds [] texts h = absurd (omega arith)
next kind kinds (s ∷ []) texts h = absurd (omega arith)
next kind kinds (s ∷ d ∷ []) texts h = refl
next kind kinds (s ∷ d ∷ t ∷ own) texts h = absurd (omega arith)

-- a record has 320 bytes, and holds its texts
longer : (kind : ℕ) (own : List (List ℕ)) → length own ≡ 2 → good_to_write (reference_of_texts kind own) ≡ true → sum (map length own) ≤ length (record_for (reference_of_texts kind own))
unfolding sum
longer kind [] h g = absurd (omega arith)
longer kind (s ∷ []) h g = absurd (omega arith)
longer kind (s ∷ d ∷ []) h g =
    let f = texts_fit (reference kind s d) (is_good (reference kind s d) g) in
    omega (arith, f.service, f.domain, record_length (reference kind s d) f.service f.domain)
longer kind (s ∷ d ∷ t ∷ own) h g = absurd (omega arith)

pub record_parts : Parts record_writer reference_of_texts record_for no_head 2 records_limit
unfolding references
record_parts = record {
  per_is = refl;
  per_some = omega arith;
  limit_is = refl;
  limit_small = omega arith;
  none = λ texts. refl;
  next = next;
  written = λ l. refl;
  longer = longer;
}
