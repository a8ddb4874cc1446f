-- The labels of a text: the first of them, when there are two, and a domain by its first label.
use Prim.Native.Nat.{ℕ, suc, ◌≤◌}
use mathlib.Core.Path.{◌≡◌, refl}
use mathlib.Core.List.{List, [], ◌∷◌, ◌++◌}
use mathlib.Core.Bool.{true, false, cond, not}
use native.Mathlib.Omega.{arith}
use lib.ListN.{length, length-drop}
use lib.Dec.{T, eqb, leb}
use borrow.Author.Tests.{le-leb, leb-true}
use Rattle.rules.specs.Bytes.{some?, all, any, before, after}
use Rattle.rules.specs.Names.{is, dot, digit, ldh, label, longer, labels, last_of, domain, two_labels}
use Rattle.rules.proofs.Cases.{by_cases, and_left, and_right}
use Rattle.rules.proofs.Cut

-- the labels past the first
unfoldable pub others : List ℕ → List (List ℕ)
others s = cond (any (is dot) s) (labels (after (is dot) s)) []

-- the first label is what stands before the first dot
pub labels_are : (s : List ℕ) → labels s ≡ before (is dot) s ∷ others s
unfolding labels longer before after others
labels_are [] = refl
labels_are (x ∷ s) =
    by_cases (eqb x dot) (λ e. rw e) (λ e. rw (e, labels_are s))

pub labels_some : (s : List ℕ) → T (some? (labels s))
labels_some s = rw (labels_are s) tt

-- two labels have a dot between them
pub two_labels_lem : (s : List ℕ) → two_labels s ≡ any (is dot) s
unfolding two_labels others
two_labels_lem s =
    rw (labels_are s)
    (by_cases (any (is dot) s)
    (λ e. rw (e, labels_are (after (is dot) s)) (le-leb 2 (suc (suc (length (others (after (is dot) s))))) (omega arith)))
    (λ e. rw e))

-- one label, and a label in front of others
pub labels_one : (l : List ℕ) → any (is dot) l ≡ false → labels l ≡ l ∷ []
unfolding others
labels_one l e = rw (labels_are l, Cut.before_whole (is dot) l e, e)

pub labels_seam : (r l : List ℕ) → any (is dot) l ≡ false → labels (l ++ dot ∷ r) ≡ l ∷ labels r
unfolding others
labels_seam r l e =
    rw (labels_are (l ++ dot ∷ r), Cut.any_seam (is dot) dot r refl l, Cut.before_seam (is dot) dot r refl l e, Cut.after_seam (is dot) dot r refl l e)

-- ---- a domain by its first label

-- what a domain says of its length, and of its first label
pub domain_short : (t : List ℕ) → domain t ≡ true → length t ≤ 253
unfolding domain
domain_short t e =
    let short : leb (length t) 253 ≡ true = search (and_left, and_right) in
    leb-true (length t) 253 short

pub domain_first : (t : List ℕ) → domain t ≡ true → label (before (is dot) t) ≡ true
unfolding domain
domain_first t e =
    let all_good : all label (labels t) ≡ true = search (and_left, and_right) in
    and_left (label (before (is dot) t)) (all label (others t)) (rw (labels_are t) at all_good)

label_short : (l : List ℕ) → label l ≡ true → length l ≤ 63
unfolding label ldh
label_short l e =
    let short : leb (length l) 63 ≡ true = search (and_left, and_right) in
    leb-true (length l) 63 short

-- a label alone
pub domain_one : (l : List ℕ) → any (is dot) l ≡ false → label l ≡ true → domain l ≡ not (all digit l)
unfolding domain last_of
domain_one l none e = rw (labels_one l none, e, le-leb (length l) 253 (omega (arith, label_short l e)))

-- a label with a dot after it
pub domain_past : (t : List ℕ) → any (is dot) t ≡ true → label (before (is dot) t) ≡ true → length t ≤ 253
    → domain t ≡ domain (after (is dot) t)
unfolding domain last_of others
domain_past t h e short =
    let rest : List ℕ = after (is dot) t in
    let less : length rest ≤ 253 = rw (← Cut.drop_after (is dot) t, length-drop) (omega arith) in
    rw (labels_are t, h, e, labels_are rest, le-leb (length t) 253 short, le-leb (length rest) 253 less)
