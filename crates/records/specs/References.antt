-- References by their index.
use Rattle.std.specs.Prelude.{ℕ, ◌*◌, List}
use Rattle.rules.specs.Bytes.{part}
use Rattle.rules.specs.Numbers.{record_size}
use Rattle.rules.specs.Records.{Reference, reference_of}

-- the reference at an index of the records
unfoldable pub reference_at : List ℕ → ℕ → Reference
reference_at b i = reference_of (part b (i * record_size) record_size)
