-- The entries of a SAN against the constraints.
use Rattle.std.specs.Prelude.{ℕ, Some, None}
use Rattle.std.specs.Prelude as std
use Rattle.std.proofs.Math.Option.{Option, none, some}
use Rattle.rules.specs.declared.Breach.{Breach}

-- the index of the first entry that breaks a string, as the code answers it
unfoldable pub first_of : Option ℕ → std.Option ℕ
first_of none = None
first_of (some i) = Some i

-- and the first breach
unfoldable pub breach_of : Option Breach → std.Option Breach
breach_of none = None
breach_of (some b) = Some b
