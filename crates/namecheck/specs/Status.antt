-- The exit status of the program where it has an answer, and how it hands over nc.der.
use Rattle.std.specs.Prelude.{ℕ, cond, List, [], ◌∷◌, length, eqb}
use Rattle.rules.specs.Bytes.{some?}
use Rattle.rules.specs.Numbers.{match}
use Rattle.rules.specs.declared.Verdict.{Verdict}

-- 0 for a match and 1 for every other answer
unfoldable pub status_of : Verdict → ℕ
status_of v = cond (eqb v.answer match) 0 1

-- 6/13: "it still reads nc.der alone": one string, or none where the file is empty or missing
unfoldable pub one_length : List ℕ → List ℕ
one_length constraints = cond (some? constraints) (length constraints ∷ []) []
