-- A text cut at the first byte that passes a test: `before` and `after` by that byte's index.
use Prim.Native.Nat.{ℕ, suc, ◌+◌, ◌<◌, ◌≤◌}
use mathlib.Core.Path.{◌≡◌, refl, sym, ap, ◌∙◌}
use mathlib.Core.List.{List, [], ◌∷◌, ◌++◌}
use mathlib.Core.Bool.{Bool, true, false, not, true≢false}
use native.Mathlib.Numerals.{add-one}
use native.Mathlib.Omega.{arith}
use lib.ListN.{length, get_or, take, drop}
use lib.Dec.{ltb, eqb, leb-suc-suc, eqb-suc-suc}
use borrow.Author.Tests.{lt-ltb, le-ltb, ne_eqb, eqb-true}
use Rattle.rules.proofs.Cases.{by_cases, clash}
use Rattle.rules.specs.Bytes.{all, any, before, after}

module _ (p : ℕ → Bool) where
  -- ---- the first byte: one that passes cuts there, one that fails is kept

  pub before_hit : (x : ℕ) (s : List ℕ) → p x ≡ true → before p (x ∷ s) ≡ []
  unfolding before
  before_hit x s e = simp e

  pub before_miss : (x : ℕ) (s : List ℕ) → p x ≡ false → before p (x ∷ s) ≡ x ∷ before p s
  unfolding before
  before_miss x s e = simp e

  -- ---- the whole text

  -- the index is at most the length
  pub before_within : (s : List ℕ) → length (before p s) ≤ length s
  unfolding before
  before_within [] = omega arith
  before_within (x ∷ s) = by_cases (p x) (λ e. rw e (omega arith)) (λ e. rw e (omega (arith, before_within s)))

  -- `before` and `after` as parts of the text
  pub take_before : (s : List ℕ) → take (length (before p s)) s ≡ before p s
  unfolding before
  take_before [] = refl
  take_before (x ∷ s) = by_cases (p x) (λ e. rw e) (λ e. rw e (ap (λ l. x ∷ l) (take_before s)))

  drop_suc : (s : List ℕ) → drop (suc (length (before p s))) s ≡ after p s
  unfolding before after
  drop_suc [] = refl
  drop_suc (x ∷ s) = by_cases (p x) (λ e. rw e) (λ e. rw e (drop_suc s))

  pub drop_after : (s : List ℕ) → drop (length (before p s) + 1) s ≡ after p s
  drop_after s = rw add-one (drop_suc s)

  -- some byte passes just where the index is one of the text's
  pub any_is : (s : List ℕ) → any p s ≡ ltb (length (before p s)) (length s)
  unfolding before
  any_is [] = refl
  any_is (x ∷ s) =
      by_cases (p x) (λ e. rw e (sym (lt-ltb 0 (suc (length s)) (omega arith))))
      (λ e. rw e (any_is s ∙ sym (leb-suc-suc (suc (length (before p s))) (length s))))

  -- the byte there passes
  pub passes_there : (s : List ℕ) → length (before p s) < length s → p (get_or s (length (before p s)) 0) ≡ true
  unfolding before
  passes_there [] h = absurd (omega arith)
  passes_there (x ∷ s) h =
      by_cases (p x) (λ e. rw e e) (λ e. let k = rw e at h in rw e (passes_there s (omega arith)))

  -- where none passes, the whole text stands before
  pub before_whole : (s : List ℕ) → any p s ≡ false → before p s ≡ s
  unfolding before
  before_whole [] e = refl
  before_whole (x ∷ s) e =
      by_cases (p x) (λ t. absurd (true≢false (rw t at e))) (λ t. rw t (ap (λ l. x ∷ l) (before_whole s (rw t at e))))

  -- and nothing after
  pub after_none : (s : List ℕ) → any p s ≡ false → after p s ≡ []
  unfolding after
  after_none [] e = refl
  after_none (x ∷ s) e =
      by_cases (p x) (λ t. clash (rw t) e) (λ t. rw t (after_none s (rw t at e)))

  -- what stands before holds no byte that the whole does not hold
  pub any_kept : (q : ℕ → Bool) (s : List ℕ) → any q s ≡ false → any q (before p s) ≡ false
  unfolding before
  any_kept q [] e = refl
  any_kept q (x ∷ s) e =
      by_cases (q x) (λ h. clash (rw h) e) (λ h. by_cases (p x) (λ t. rw t) (λ t. rw (t, h) (any_kept q s (rw h at e))))

  -- where one passes, the text is cut at such a byte
  pub cut_there : (s : List ℕ) → any p s ≡ true → (x : ℕ) × (p x ≡ true) × (s ≡ before p s ++ x ∷ after p s)
  unfolding before after
  cut_there [] e = clash e refl
  cut_there (x ∷ s) e =
      by_cases (p x) (λ t. (x, t, rw t))
      (λ t. let c = cut_there s (rw t at e) in (c.0, c.1, rw t (ap (λ l. x ∷ l) c.2)))

  -- ---- a text put together: none passes in s, and x does

  module _ (x : ℕ) (r : List ℕ) (here : p x ≡ true) where
    pub before_seam : (s : List ℕ) → any p s ≡ false → before p (s ++ x ∷ r) ≡ s
    unfolding before
    before_seam [] e = rw here
    before_seam (y ∷ s) e =
        by_cases (p y) (λ t. clash (rw t) e) (λ t. rw t (ap (λ l. y ∷ l) (before_seam s (rw t at e))))

    pub after_seam : (s : List ℕ) → any p s ≡ false → after p (s ++ x ∷ r) ≡ r
    unfolding after
    after_seam [] e = rw here
    after_seam (y ∷ s) e = by_cases (p y) (λ t. clash (rw t) e) (λ t. rw t (after_seam s (rw t at e)))

    pub any_seam : (s : List ℕ) → any p (s ++ x ∷ r) ≡ true
    any_seam [] = rw here
    any_seam (y ∷ s) = by_cases (p y) (λ t. rw t) (λ t. rw t (any_seam s))

  -- none passes in either
  pub any_append : (s t : List ℕ) → any p s ≡ false → any p t ≡ false → any p (s ++ t) ≡ false
  any_append [] t e f = f
  any_append (y ∷ s) t e f = by_cases (p y) (λ h. clash (rw h) e) (λ h. rw h (any_append s t (rw h at e) f))

  -- every byte passes just where the first that fails is none of the text's
  pub all_is : (s : List ℕ) → all p s ≡ eqb (length (before (λ x. not (p x)) s)) (length s)
  unfolding before
  all_is [] = refl
  all_is (x ∷ s) =
      by_cases (p x)
      (λ e. rw e (all_is s ∙ sym (eqb-suc-suc (length (before (λ y. not (p y)) s)) (length s))))
      (λ e. rw e (sym (ne_eqb 0 (suc (length s)) (λ f. omega arith))))

  -- every byte before the first that fails passes
  pub all_before : (s : List ℕ) → all p (before (λ x. not (p x)) s) ≡ true
  unfolding before
  all_before [] = refl
  all_before (x ∷ s) = by_cases (p x) (λ e. rw (e, e) (all_before s)) (λ e. rw e)

-- where every byte passes, none fails
pub any_fails : (p : ℕ → Bool) (s : List ℕ) → all p s ≡ true → any (λ x. not (p x)) s ≡ false
any_fails p s e =
    let k = length (before (λ x. not (p x)) s) in
    any_is (λ x. not (p x)) s ∙ le-ltb k (length s) (omega (arith, eqb-true k (length s) (sym (all_is p s) ∙ e)))

-- ---- two tests, of which the second passes less

module _ (p q : ℕ → Bool) (less : (x : ℕ) → q x ≡ true → p x ≡ true) where
  -- what fails the first fails the second
  fails : (x : ℕ) → p x ≡ false → q x ≡ false
  fails x e = by_cases (q x) (λ t. absurd (true≢false (sym (less x t) ∙ e))) (λ t. t)

  -- what stands before a byte that passes the first holds none that passes the second
  pub any_before : (s : List ℕ) → any q (before p s) ≡ false
  unfolding before
  any_before [] = refl
  any_before (x ∷ s) =
      by_cases (p x) (λ e. rw e) (λ e. rw (e, fails x e) (any_before s))

  -- where the byte that passes the first passes the second too, both cut there
  pub before_there : (s : List ℕ) → length (before p s) < length s → q (get_or s (length (before p s)) 0) ≡ true
      → before q s ≡ before p s
  unfolding before
  before_there [] h e = absurd (omega arith)
  before_there (x ∷ s) h e =
      by_cases (p x) (λ t. let u : q x ≡ true = rw t at e in rw (t, u))
      (λ t.
      let k : suc (length (before p s)) < suc (length s) = rw t at h in
      let f : q (get_or s (length (before p s)) 0) ≡ true = rw t at e in
      rw (t, fails x t) (ap (λ l. x ∷ l) (before_there s (omega arith) f)))

  -- where the second cuts a part off in which none passes the first, both cut there
  pub before_until : (s : List ℕ) → any p (before q s) ≡ false → before q s ≡ before p s
  unfolding before
  before_until [] e = refl
  before_until (x ∷ s) e =
      by_cases (q x) (λ t. rw (t, less x t))
      (λ t. by_cases (p x) (λ u. absurd (true≢false (rw (t, u) at e)))
      (λ u. rw (t, u) (ap (λ l. x ∷ l) (before_until s (rw (t, u) at e)))))
