-- A dNSName subtree that a wildcard does not break, were it excluded, holds no domain that the wildcard matches.
use Prim.Native.Nat.{ℕ}
use mathlib.Core.Path.{◌≡◌, refl, sym, ap, ◌∙◌}
use mathlib.Core.Bool.{true, false, ◌&&◌, and-false}
use mathlib.Core.Logic.{◌⊎◌, inl, inr}
use mathlib.Core.List.{List, [], ◌∷◌}
use lib.ListN.{drop}
use lib.Dec.{eqb}
use borrow.Author.Tests.{eqb-true}
use Rattle.rules.specs.Bytes.{begins}
use Rattle.rules.specs.Names.{star, dot, labels, longer, same_labels, last_labels, wildcard, dns_id, leftmost_matches, labels_match, dns_matches, subtree_labels, dns_within, one_label_then, dns_reaches}
use Rattle.rules.proofs.Cases.{and_left, and_right, clash}
use Rattle.rules.proofs.SameLabels.{or_right, and_both, last_none, last_behind}

-- a wildcard begins with `*.`
wildcard_begins : (s : List ℕ) → wildcard s ≡ true → begins (star ∷ dot ∷ []) s ≡ true
unfolding wildcard
wildcard_begins s e = search (and_left, and_right)

-- its labels are the star, and those of what follows
wild_labels : (s : List ℕ) → begins (star ∷ dot ∷ []) s ≡ true → labels s ≡ (star ∷ []) ∷ labels (drop 2 s)
unfolding begins labels longer
wild_labels [] e = clash e refl
wild_labels (x ∷ []) e = clash e (and-false (eqb star x))
wild_labels (x ∷ y ∷ t) e =
    let first = and_left (eqb star x) (eqb dot y && true) e in
    let second = and_left (eqb dot y) true (and_right (eqb star x) (eqb dot y && true) e) in
    rw (← eqb-true star x first, ← eqb-true dot y second)

-- of what a list of labels matches, the others are the same
match_parts : {P : Type 0} (ps rs : List (List ℕ)) → labels_match ps rs ≡ true
    → ((p : List ℕ) (ps' : List (List ℕ)) (r : List ℕ) (rs' : List (List ℕ)) → ps ≡ p ∷ ps' → rs ≡ r ∷ rs' → same_labels ps' rs' ≡ true → P) → P
unfolding labels_match
match_parts [] rs e k = clash e refl
match_parts (p ∷ ps) [] e k = clash e refl
match_parts (p ∷ ps) (r ∷ rs) e k = k p ps r rs refl refl (and_right (leftmost_matches p r) _ e)

-- a wildcard breaks what it lies in, and one label and then what follows `*.`
pub reaches_inside : (t e : List ℕ) → dns_within e t ≡ true → dns_reaches e t ≡ true
unfolding dns_reaches
reaches_inside t e h = rw h

reaches_below : (t e : List ℕ) → wildcard t ≡ true → one_label_then (drop 2 t) e ≡ true → dns_reaches e t ≡ true
unfolding dns_reaches
reaches_below t e w h = or_right (dns_within e t) _ (and_both (wildcard t) (one_label_then (drop 2 t) e) w h)

-- labels that are the last of a domain's are the last of the wildcard's, or one label and then what follows `*.`
reached : (t e d : List ℕ) → wildcard t ≡ true → dns_within e d ≡ true → labels_match (labels t) (labels d) ≡ true → dns_reaches e t ≡ true
unfolding dns_within one_label_then subtree_labels
reached t [] d w i m = reaches_inside t [] (last_none (labels t))
reached t (b ∷ s) d w i m =
    match_parts (labels t) (labels d) m λ p ps r rs pe re q.
    go p ps pe (last_behind (labels (b ∷ s)) ps rs p r q (rw re at i))
  where
    go : (p : List ℕ) (ps : List (List ℕ)) → labels t ≡ p ∷ ps
        → (last_labels (labels (b ∷ s)) (p ∷ ps) ≡ true) ⊎ (same_labels ps (drop 1 (labels (b ∷ s))) ≡ true) → dns_reaches (b ∷ s) t ≡ true
    go p ps pe (inl h) = reaches_inside t (b ∷ s) (rw pe h)
    go p ps pe (inr h) =
        let same : labels (drop 2 t) ≡ ps = ap (drop 1) (sym (wild_labels t (wildcard_begins t w)) ∙ pe) in
        reaches_below t (b ∷ s) w (rw same h)

pub kept_out : (t e d : List ℕ) → wildcard t ≡ true → dns_reaches e t ≡ false → dns_within e d ≡ true → dns_matches d t ≡ true → ⊥
unfolding dns_matches
kept_out t e d w n i m = clash (reached t e d w i (and_right (dns_id t) (labels_match (labels t) (labels d)) m)) n
