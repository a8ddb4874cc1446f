-- A list of names and its groups: each is told from the other.
use Rattle.std.specs.Prelude.{ℕ, suc, ◌≡◌, Bool, ltb}
use Rattle.std.proofs.Math.Path.{refl, sym, ap}
use Rattle.std.proofs.Common.{◌∙◌, arith, eq-eqb, ne_eqb, eqb-true}
use Rattle.std.proofs.Math.Bool.{true, false}
use mathlib.Core.List.{List, [], ◌∷◌, ◌++◌, map}
use Rattle.std.proofs.Math.Dec.{T, eqb, ltb→lt}
use Rattle.rules.specs.Bytes.{some?, all, chain}
use Rattle.rules.specs.Der.{Member, Group, push, groups}
use Rattle.reading.specs.Strings.{flat, number_from, rising}
use Rattle.reading.specs.Answers.{and_parts}

module _ {A : Type 0} where
  -- the names of one group
  abbrev pub members : ℕ → List A → List (Member A)
  members k s = map (λ a. record { group = k; value = a }) s

  -- a group is not empty
  abbrev pub filled : Group A → Bool
  filled g = some? g.members

  -- ---- flat (groups l) is l

  push_flat : (m : Member A) (gs : List (Group A)) → flat (push m gs) ≡ m ∷ flat gs
  unfolding push flat
  push_flat m [] = refl
  push_flat m (g ∷ gs) = go (eqb m.group g.number) refl
    where
      go : (t : Bool) → eqb m.group g.number ≡ t → flat (push m (g ∷ gs)) ≡ m ∷ flat (g ∷ gs)
      go true e =
          let k : g.number ≡ m.group = sym (eqb-true m.group g.number e) in
          rw (e, push) (ap {B = List (Member A)} (λ (n : ℕ). record { group = n; value = m.value } ∷ flat (g ∷ gs)) k)
      go false e = rw (e, push)

  pub flat_groups : (l : List (Member A)) → flat (groups l) ≡ l
  unfolding groups flat
  flat_groups [] = refl
  flat_groups (m ∷ l) = push_flat m (groups l) ∙ ap {B = List (Member A)} (m ∷◌) (flat_groups l)

  -- ---- no group of a list is empty

  push_filled : (m : Member A) (gs : List (Group A)) → T (all filled gs) → T (all filled (push m gs))
  unfolding push
  push_filled m [] h = tt
  push_filled m (g ∷ gs) h = go (eqb m.group g.number) refl
    where
      go : (t : Bool) → eqb m.group g.number ≡ t → T (all filled (push m (g ∷ gs)))
      go true e = rw (e, push) (and_parts (filled g) (all filled gs) h).1
      go false e = rw (e, push) h

  pub groups_filled : (l : List (Member A)) → T (all filled (groups l))
  unfolding groups
  groups_filled [] = tt
  groups_filled (m ∷ l) = push_filled m (groups l) (groups_filled l)

  -- ---- groups (flat gs) is gs, where none is empty and the numbers rise

  -- the next group, if there is one, has a greater number
  abbrev below : ℕ → List (Group A) → Bool
  below k [] = true
  below k (g ∷ gs) = ltb k g.number

  chain_below : (g : Group A) (gs : List (Group A)) → T (chain rising (g ∷ gs)) → T (below g.number gs) × T (chain rising gs)
  chain_below g [] c = (tt, tt)
  chain_below g (h ∷ gs) c = and_parts (rising g h) _ c

  groups_one : (k : ℕ) (a : A) (s : List A) (l : List (Member A)) (gs : List (Group A)) → groups l ≡ gs → T (below k gs)
      → groups (members k (a ∷ s) ++ l) ≡ record { number = k; members = a ∷ s } ∷ gs
  unfolding groups push
  groups_one k a [] l [] e c = rw e
  groups_one k a [] l (g ∷ gs) e c = rw e (simp (ne_eqb k g.number (λ q. omega (arith, ltb→lt k g.number c))))
  groups_one k a (b ∷ s) l gs e c = rw (groups_one k b s l gs e c) (simp (eq-eqb k k refl))

  groups_cons : (k : ℕ) (m : List A) (gs : List (Group A)) → T (some? m) → T (below k gs) → groups (flat gs) ≡ gs
      → groups (members k m ++ flat gs) ≡ record { number = k; members = m } ∷ gs
  groups_cons k [] gs f c e = absurd f
  groups_cons k (a ∷ s) gs f c e = groups_one k a s (flat gs) gs e c

  pub groups_flat : (gs : List (Group A)) → T (all filled gs) → T (chain rising gs) → groups (flat gs) ≡ gs
  unfolding groups flat
  groups_flat [] f c = refl
  groups_flat (g ∷ gs) f c =
      let p = and_parts (filled g) _ f in
      let q = chain_below g gs c in
      groups_cons g.number g.members gs p.0 q.0 (groups_flat gs p.1 q.1)

  -- ---- groups numbered from i on

  pub members_number_from : (i : ℕ) (ms : List (List A)) → map (λ g. g.members) (number_from i ms) ≡ ms
  unfolding number_from
  members_number_from i [] = refl
  members_number_from i (m ∷ ms) = ap {B = List (List A)} (m ∷◌) (members_number_from (suc i) ms)
