-- A writer by its parts: one name, and what stands before all names.
use Rattle.std.specs.Prelude.{ℕ, ◌≤◌, ◌<◌, ◌≡◌, true, List, [], ◌∷◌, ◌++◌, map, length}
use Rattle.rules.specs.Bytes.{sum}
use Rattle.rules.specs.Der.{run}
use Rattle.rules.specs.Writing.{Writer}

-- the names are made one by one, each of a kind and so many texts; a result is a head, by how long the names are side by side, and then
-- the bytes of each, which are no fewer than those of its texts
pub record Parts {Name : Type 0} (W : Writer Name) (make : ℕ → List (List ℕ) → Name) (bytes : Name → List ℕ) (head : ℕ → List ℕ) (per limit : ℕ) : Type 0 where
  pub per_is : W.per ≡ per
  pub per_some : 0 < per
  pub limit_is : W.limit ≡ limit
  pub limit_small : limit < 65536
  pub none : (texts : List (List ℕ)) → W.names [] texts ≡ []
  pub next : (kind : ℕ) (kinds : List ℕ) (own texts : List (List ℕ)) → length own ≡ W.per
      → W.names (kind ∷ kinds) (own ++ texts) ≡ make kind own ∷ W.names kinds texts
  pub written : (l : List Name) → W.write l ≡ head (length (run bytes l)) ++ run bytes l
  pub longer : (kind : ℕ) (own : List (List ℕ)) → length own ≡ W.per → W.good (make kind own) ≡ true → sum (map length own) ≤ length (bytes (make kind own))
