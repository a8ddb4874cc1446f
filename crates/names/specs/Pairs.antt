-- The labels of a text of at most 63 bytes, by its neighbouring bytes.
use Rattle.std.specs.Prelude.{ℕ, Bool, cond, ◌||◌, List, [], ◌∷◌, eqb}
use Rattle.rules.specs.Names.{dot, hyphen, letter, digit}

-- a letter or a digit
unfoldable pub alnum : ℕ → Bool
alnum b = letter b || digit b

-- 0 where c may stand before d, else 1
unfoldable pub bad : ℕ → ℕ → ℕ
bad c d = cond (alnum c) 0 (cond (eqb c hyphen) (cond (eqb d dot) 1 0) (cond (eqb c dot) (cond (alnum d) 0 1) 1))

-- the same of each byte and the next
unfoldable pub marks_from : ℕ → List ℕ → List ℕ
marks_from c [] = []
marks_from c (d ∷ s) = bad c d ∷ marks_from d s

unfoldable pub marks : List ℕ → List ℕ
marks [] = []
marks (c ∷ s) = marks_from c s
