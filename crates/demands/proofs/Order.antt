-- A table of answers, from the first condition that holds.
use Prim.Native.Nat.{ℕ}
use mathlib.Core.Path.{◌≡◌}
use mathlib.Core.Logic.{◌≢◌, ◌⊎◌, inl, inr}
use mathlib.Core.List.{List, [], ◌∷◌}
use Rattle.demands.specs.Statements.{Answer, None, EachExactly}

-- the number is none of these
abbrev pub Differs : List Answer → ℕ → Type 0
Differs [] given = Unit
Differs (a ∷ later) given = (given ≢ a.number) × Differs later given

-- the number is that of the first condition that holds, and of no other row
abbrev pub Chosen : List Answer → ℕ → Type 0
Chosen [] given = ⊥
Chosen (a ∷ later) given =
    (a.condition × (given ≡ a.number) × Differs later given)
    ⊎ ((¬ a.condition) × (given ≢ a.number) × Chosen later given)

-- past the row that was given no row is
after : (earlier : List (Type 0)) (table : List Answer) (given : ℕ) → ¬ None earlier → Differs table given → EachExactly earlier table given
after earlier [] given held d = tt
after earlier (a ∷ later) given held d =
    ((λ e. absurd (d.0 e), λ h. absurd (held h.1)), after (a.condition ∷ earlier) later given (λ n. held n.1) d.1)

-- where no earlier condition holds, the chosen row is given, and no other
pub each_exactly : (earlier : List (Type 0)) (table : List Answer) (given : ℕ) → None earlier → Chosen table given → EachExactly earlier table given
each_exactly earlier [] given none c = absurd c
each_exactly earlier (a ∷ later) given none (inl c) =
    ((λ e. (c.0, none), λ h. c.1), after (a.condition ∷ earlier) later given (λ n. n.0 c.0) c.2)
each_exactly earlier (a ∷ later) given none (inr c) =
    ((λ e. absurd (c.1 e), λ h. absurd (c.0 h.0)), each_exactly (a.condition ∷ earlier) later given (c.0, none) c.2)
