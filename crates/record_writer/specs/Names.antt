-- The names of records: each is a reference made of two texts.
use Rattle.std.specs.Prelude.{ℕ, List, [], ◌∷◌}
use Rattle.rules.specs.Records.{Reference, reference}

-- a reference of its kind, its service and its domain
abbrev pub reference_of_texts : ℕ → List (List ℕ) → Reference
reference_of_texts kind [] = reference kind [] []
reference_of_texts kind (service ∷ []) = reference kind service []
reference_of_texts kind (service ∷ domain ∷ texts) = reference kind service domain

-- records stand side by side, with nothing before them
abbrev pub no_head : ℕ → List ℕ
no_head n = []
