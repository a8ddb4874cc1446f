-- Labels that are the same without case: turned round, chained, and as the last labels of a name.
use Prim.Native.Nat.{ℕ}
use mathlib.Core.Path.{◌≡◌, refl, ◌∙◌}
use mathlib.Core.Bool.{Bool, true, false, ◌&&◌, ◌||◌, or-true}
use mathlib.Core.Logic.{◌⊎◌, inl, inr}
use mathlib.Core.List.{List, [], ◌∷◌}
use lib.Dec.{eqb}
use lib.ListN.{drop}
use borrow.Author.Tests.{eqb-true, eq-eqb}
use Rattle.rules.proofs.Cases.{and_left, and_right, clash, eqb_swap}
use Rattle.rules.specs.Names.{lower, same_text, same_labels, last_labels}

pub or_cases : {P : Type 0} (s t : Bool) → s || t ≡ true → (s ≡ true → P) → (t ≡ true → P) → P
or_cases true t e f g = f refl
or_cases false t e f g = g e

pub or_right : (s t : Bool) → t ≡ true → s || t ≡ true
or_right s t e = rw (e, or-true)

pub and_both : (s t : Bool) → s ≡ true → t ≡ true → s && t ≡ true
and_both s t e f = rw (e, f)

pub text_turn : (s t : List ℕ) → same_text s t ≡ same_text t s
unfolding same_text
text_turn [] [] = refl
text_turn [] (y ∷ t) = refl
text_turn (x ∷ s) [] = refl
text_turn (x ∷ s) (y ∷ t) = rw (eqb_swap (lower x) (lower y), text_turn s t)

pub text_chain : (s t u : List ℕ) → same_text s t ≡ true → same_text t u ≡ true → same_text s u ≡ true
unfolding same_text
text_chain [] [] u e f = f
text_chain [] (y ∷ t) u e f = clash e refl
text_chain (x ∷ s) [] u e f = clash e refl
text_chain (x ∷ s) (y ∷ t) [] e f = clash f refl
text_chain (x ∷ s) (y ∷ t) (z ∷ u) e f =
    and_both (eqb (lower x) (lower z)) (same_text s u)
    (eq-eqb (lower x) (lower z) (eqb-true (lower x) (lower y) (and_left (eqb (lower x) (lower y)) (same_text s t) e) ∙ eqb-true (lower y) (lower z) (and_left (eqb (lower y) (lower z)) (same_text t u) f)))
    (text_chain s t u (and_right (eqb (lower x) (lower y)) _ e) (and_right (eqb (lower y) (lower z)) _ f))

pub labels_turn : (s t : List (List ℕ)) → same_labels s t ≡ same_labels t s
unfolding same_labels
labels_turn [] [] = refl
labels_turn [] (y ∷ t) = refl
labels_turn (x ∷ s) [] = refl
labels_turn (x ∷ s) (y ∷ t) = rw (text_turn x y, labels_turn s t)

pub labels_chain : (s t u : List (List ℕ)) → same_labels s t ≡ true → same_labels t u ≡ true → same_labels s u ≡ true
unfolding same_labels
labels_chain [] [] u e f = f
labels_chain [] (y ∷ t) u e f = clash e refl
labels_chain (x ∷ s) [] u e f = clash e refl
labels_chain (x ∷ s) (y ∷ t) [] e f = clash f refl
labels_chain (x ∷ s) (y ∷ t) (z ∷ u) e f =
    and_both (same_text x z) (same_labels s u)
    (text_chain x y z (and_left (same_text x y) (same_labels s t) e) (and_left (same_text y z) (same_labels t u) f))
    (labels_chain s t u (and_right (same_text x y) _ e) (and_right (same_text y z) _ f))

-- the last labels of a name are those of every name that is the same
pub last_same : (e ps rs : List (List ℕ)) → same_labels ps rs ≡ true → last_labels e rs ≡ true → last_labels e ps ≡ true
unfolding last_labels same_labels
last_same e [] [] s h = h
last_same e [] (r ∷ rs) s h = clash s refl
last_same e (p ∷ ps) [] s h = clash s refl
last_same e (p ∷ ps) (r ∷ rs) s h =
    or_cases (same_labels e (r ∷ rs)) (last_labels e rs) h
    (λ q. rw (labels_chain e (r ∷ rs) (p ∷ ps) q (labels_turn (r ∷ rs) (p ∷ ps) ∙ s)))
    (λ q. rw (last_same e ps rs (and_right (same_text p r) (same_labels ps rs) s) q, or-true))

-- no labels are the last of any
pub last_none : (ls : List (List ℕ)) → last_labels [] ls ≡ true
unfolding last_labels same_labels
last_none [] = refl
last_none (l ∷ ls) = last_none ls

-- labels that are the last of a domain, of which the first label is anything: they are the last of the others, or one label
-- and then the others
pub last_behind : (e ps rs : List (List ℕ)) (p r : List ℕ) → same_labels ps rs ≡ true → last_labels e (r ∷ rs) ≡ true
    → (last_labels e (p ∷ ps) ≡ true) ⊎ (same_labels ps (drop 1 e) ≡ true)
unfolding last_labels same_labels
last_behind e ps rs p r s h =
    or_cases (same_labels e (r ∷ rs)) (last_labels e rs) h
    (λ q. inr (go e q))
    (λ q. inl (rw (last_same e ps rs s q, or-true)))
  where
    go : (e : List (List ℕ)) → same_labels e (r ∷ rs) ≡ true → same_labels ps (drop 1 e) ≡ true
    go [] q = clash q refl
    go (x ∷ xs) q = labels_chain ps rs xs s (labels_turn rs xs ∙ and_right (same_text x r) (same_labels xs rs) q)
