-- A reader of what a grammar writes: said once, for every value. The laws of it are in proofs/Codec.antt.
use Rattle.std.specs.Prelude.{◌≡◌, Bool, T}
use Rattle.std.proofs.Math.Option.{Option, some}

-- `read` reads exactly the values that `good` allows, as `write` writes them
pub record Codec {A B : Type 0} (read : B → Option A) (good : A → Bool) (write : A → B) : Type 0 where
  pub sound : (b : B) {a : A} → read b ≡ some a → T (good a) × (b ≡ write a)
  pub complete : (a : A) → T (good a) → read (write a) ≡ some a
