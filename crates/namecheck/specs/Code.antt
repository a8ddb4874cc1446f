-- The number of each way in which the program ends. No public clause cites it: it is for the conversions to and from `Status`.
use Rattle.std.specs.Prelude.{ℕ}
use Rattle.namecheck.specs.declared.Status.{Status}
use Rattle.namecheck.specs.declared.Status.TheVariants.{Matched, Otherwise, Failed}

-- 0 for a match, 1 for every other answer, 2 for no answer at all
unfoldable pub code : Status → ℕ
code Matched = 0
code Otherwise = 1
code Failed = 2
