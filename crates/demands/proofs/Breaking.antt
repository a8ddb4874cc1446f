-- Which names break a string: the tests of the rules, spelled out by the string's subtrees.
use Prim.Native.Nat.{ℕ, zero, suc, ◌<◌}
use mathlib.Core.Path.{◌≡◌, refl, sym, ap, ◌∙◌}
use mathlib.Core.Logic.{◌↔◌, ◌⊎◌, inl, inr}
use mathlib.Core.Bool.{Bool, true, false, cond, not, ◌&&◌, ◌||◌, true≢false, or-true, or-false, and-false}
use mathlib.Core.Option.{Option, none, some, some-injective}
use mathlib.Core.List.{List, [], ◌∷◌}
use native.Mathlib.Omega.{arith}
use lib.ListN.{get_elem?}
use lib.Dec.{T, eqb}
use borrow.Author.Tests.{eq-eqb, eqb-true, not-true}
use Rattle.rules.specs.Bytes.{some?, any, same}
use Rattle.rules.specs.Der.{Member}
use Rattle.rules.specs.San.{GeneralName, plain, other, srv_oid}
use Rattle.rules.specs.Constraints.{permitted, excluded}
use Rattle.rules.specs.Matching.{Form, srv_form, dns_form, srv_text, tagged_text, with_some, subtrees_of, allowed, breaks_as, breaks}
use Rattle.rules.proofs.Cases.{by_cases, is_true, holds, fails, clash}
use Rattle.reading.specs.Answers.{no_some}
use Rattle.demands.specs.Issuers.{IsSrv, IsDns, Subtree, Breaks, BreaksString}
use Rattle.demands.proofs.Texts.{tagged_is, srv_is}

-- a list that is not empty has one that passes a test that all pass
some_any : {A : Type 0} (l : List A) → some? l ≡ any (λ a. true) l
some_any [] = refl
some_any (a ∷ l) = refl

-- ---- the texts of a form's subtrees

-- a form, and what it means that a name has a text of it
module _ (F : Form) (Is : GeneralName → List ℕ → Type 0) (is : (n : GeneralName) (t : List ℕ) → F.text n ≡ some t ↔ Is n t) where
  -- the text that a subtree adds to those of a side
  abbrev added : ℕ → Member GeneralName → Option (List ℕ)
  added side m = cond (eqb m.group side) (F.text m.value) none

  added_is : (side : ℕ) (m : Member GeneralName) (t : List ℕ) → added side m ≡ some t → (m.group ≡ side) × Is m.value t
  added_is side m t e =
      by_cases (eqb m.group side) (λ q. (eqb-true _ side q, (is m.value t).0 (rw q at e))) (λ q. absurd (no_some (rw q at e)))

  is_added : (side : ℕ) (m : Member GeneralName) (t : List ℕ) → m.group ≡ side → Is m.value t → added side m ≡ some t
  is_added side m t e h = rw (eq-eqb m.group side e) ((is m.value t).1 h)

  -- a text among them that passes is a subtree's
  there : (c : List (Member GeneralName)) (side : ℕ) (p : List ℕ → Bool) → any p (subtrees_of F side c) ≡ true
      → (t : List ℕ) × Subtree Is c side t × T (p t)
  unfolding subtrees_of
  there [] side p e = absurd (true≢false (sym e))
  there (m ∷ c) side p e = go (added side m) refl (λ f. behind (there c side p f))
    where
      behind : (t : List ℕ) × Subtree Is c side t × T (p t) → (t : List ℕ) × Subtree Is (m ∷ c) side t × T (p t)
      behind h =
          let s = h.1 in
          (h.0, record { index = suc s.index; subtree = s.subtree; subtree_at_lem = s.subtree_at_lem; side_is = s.side_is; text_is = s.text_is }, h.2)

      go : (o : Option (List ℕ)) → added side m ≡ o
          → (any p (subtrees_of F side c) ≡ true → (t : List ℕ) × Subtree Is (m ∷ c) side t × T (p t))
          → (t : List ℕ) × Subtree Is (m ∷ c) side t × T (p t)
      go none q rest = rest (rw q at e)
      go (some t) q rest =
          let h = added_is side m t q in
          by_cases (p t)
          (λ f. (t, record { index = 0; subtree = m; subtree_at_lem = refl; side_is = h.0; text_is = h.1 }, rw f tt))
          (λ f. rest (rw (q, f) at e))

  -- where none passes no subtree's does
  nowhere : (c : List (Member GeneralName)) (side : ℕ) (p : List ℕ → Bool) → any p (subtrees_of F side c) ≡ false
      → (k : ℕ) (m : Member GeneralName) (t : List ℕ) → get_elem? c k ≡ some m → m.group ≡ side → Is m.value t → p t ≡ false
  unfolding subtrees_of
  nowhere [] side p e k m t at g h = absurd (no_some at)
  nowhere (n ∷ c) side p e zero m t at g h =
      let q : added side n ≡ some t = ap (added side) (some-injective n m at) ∙ is_added side m t g h in
      by_cases (p t) (λ f. clash refl (rw (q, f) at e)) (λ f. f)
  nowhere (n ∷ c) side p e (suc k) m t at g h = nowhere c side p (behind (added side n) e) k m t at g h
    where
      behind : (o : Option (List ℕ)) → any p (with_some o (subtrees_of F side c)) ≡ false → any p (subtrees_of F side c) ≡ false
      behind none f = f
      behind (some a) f = by_cases (p a) (λ q. clash refl (rw q at f)) (λ q. rw q at f)

  module _ (c : List (Member GeneralName)) where
    -- so one passes exactly where a subtree's does
    passes : (side : ℕ) (p : List ℕ → Bool) (t : List ℕ) → Subtree Is c side t → T (p t) → any p (subtrees_of F side c) ≡ true
    passes side p t s h =
        by_cases (any p (subtrees_of F side c)) (λ e. e)
        (λ e. clash (is_true (p t) h) (nowhere c side p e s.index s.subtree t s.subtree_at_lem s.side_is s.text_is))

    some_of : (side : ℕ) (t : List ℕ) → Subtree Is c side t → some? (subtrees_of F side c) ≡ true
    some_of side t s = some_any (subtrees_of F side c) ∙ passes side (λ a. true) t s tt

    of_some : (side : ℕ) → some? (subtrees_of F side c) ≡ true → (t : List ℕ) × Subtree Is c side t
    of_some side e =
        let h = there c side (λ a. true) (sym (some_any (subtrees_of F side c)) ∙ e) in
        (h.0, h.1)

    -- ---- a text that is not allowed

    module _ (t : List ℕ) where
      abbrev Broken : Type 0
      Broken = Breaks Is F.id F.inside F.reaches c t

      not_allowed : allowed F c t ≡ false → Broken
      unfolding allowed
      not_allowed e = record { some_subtree = held; not_allowed = why }
        where
          held : (side : ℕ) × (subtree : List ℕ) × (side < 2) × Subtree Is c side subtree
          held =
              by_cases (some? (subtrees_of F permitted c))
              (λ p. let s = of_some permitted p in (permitted, s.0, omega arith, s.1))
              (λ p. by_cases (some? (subtrees_of F excluded c))
              (λ x. let s = of_some excluded x in (excluded, s.0, omega arith, s.1))
              (λ x. clash refl (rw (p, x) at e)))

          why : ¬ T (F.id t)
              ⊎ ((subtree : List ℕ) × Subtree Is c excluded subtree × T (F.reaches subtree t))
              ⊎ (((subtree : List ℕ) × Subtree Is c permitted subtree) × ((subtree : List ℕ) → Subtree Is c permitted subtree → ¬ T (F.inside subtree t)))
          why =
              by_cases (F.id t)
              (λ i. by_cases (any (λ s. F.reaches s t) (subtrees_of F excluded c))
              (λ x. inr (inl (there c excluded (λ s. F.reaches s t) x)))
              (λ x. by_cases (some? (subtrees_of F permitted c))
              (λ p. by_cases (any (λ s. F.inside s t) (subtrees_of F permitted c))
              (λ n. clash refl (rw (i, x, p, n) at e))
              (λ n. inr (inr (of_some permitted p, λ subtree s h. clash (passes permitted (λ s. F.inside s t) subtree s h) n))))
              (λ p. clash refl (rw (i, x, p, or-true) at e))))
              (λ i. inl (rw i (λ h. h)))

      is_not_allowed : Broken → allowed F c t ≡ false
      unfolding allowed
      is_not_allowed b = rw (held b.some_subtree, why b.not_allowed)
        where
          held : (side : ℕ) × (subtree : List ℕ) × (side < 2) × Subtree Is c side subtree
              → (not (some? (subtrees_of F permitted c)) && not (some? (subtrees_of F excluded c))) ≡ false
          held (zero, subtree, h, s) = rw (some_of permitted subtree s)
          held (suc zero, subtree, h, s) = rw (some_of excluded subtree s, and-false)
          held (suc (suc n), subtree, h, s) = absurd (omega arith)

          why : ¬ T (F.id t)
              ⊎ ((subtree : List ℕ) × Subtree Is c excluded subtree × T (F.reaches subtree t))
              ⊎ (((subtree : List ℕ) × Subtree Is c permitted subtree) × ((subtree : List ℕ) → Subtree Is c permitted subtree → ¬ T (F.inside subtree t)))
              → (F.id t && not (any (λ s. F.reaches s t) (subtrees_of F excluded c))
              && (not (some? (subtrees_of F permitted c)) || any (λ s. F.inside s t) (subtrees_of F permitted c))) ≡ false
          why (inl n) = rw (sym (fails (F.id t) (λ e. n (holds _ e))))
          why (inr (inl h)) = rw (passes excluded (λ s. F.reaches s t) h.0 h.1 h.2, and-false)
          why (inr (inr h)) =
              let n : any (λ s. F.inside s t) (subtrees_of F permitted c) ≡ false =
              sym (fails _ (λ e. let s = there c permitted (λ s. F.inside s t) e in h.1 s.0 s.1 s.2)) in
              rw (some_of permitted h.0.0 h.0.1, n, and-false)

      -- a name of this text breaks the string where it is not allowed
      pub by_subtrees : T (not (allowed F c t)) ↔ Broken
      by_subtrees = (λ h. not_allowed (not-true _ (is_true _ h)), λ b. rw (is_not_allowed b) tt)

-- ---- the two forms

module _ (c : List (Member GeneralName)) where
  srv_breaks : (tag : ℕ) (t : List ℕ) → breaks c (other srv_oid tag t) ≡ not (allowed srv_form c t)
  unfolding breaks breaks_as srv_text tagged_text same
  srv_breaks tag t = or-false _

  dns_breaks_lem : (t : List ℕ) → breaks c (plain 0x82 t) ≡ not (allowed dns_form c t)
  unfolding breaks breaks_as srv_text tagged_text
  dns_breaks_lem t = refl

  -- a name that has neither text breaks nothing
  others_pass_lem : (n : GeneralName) → srv_text n ≡ none → tagged_text 0x82 n ≡ none → breaks c n ≡ false
  unfolding breaks breaks_as
  others_pass_lem n e f = rw (e, f)

no_text : {A : Type 0} (o : Option A) → ((a : A) → o ≡ some a → ⊥) → o ≡ none
no_text none h = refl
no_text (some a) h = absurd (h a refl)

pub breaks_string : (string : List (Member GeneralName)) (name : GeneralName) → BreaksString string name
breaks_string c name = record {
  srv = λ t h. rw (h.1, srv_breaks c h.0 t) (by_subtrees srv_form IsSrv srv_is c t);
  dns = λ t e. rw (e, dns_breaks_lem c t) (by_subtrees dns_form IsDns (tagged_is 0x82) c t);
  others = λ u v. rw (others_pass_lem c name (no_text _ (λ t e. u t ((srv_is name t).0 e))) (no_text _ (λ t e. v t ((tagged_is 0x82 name t).0 e)))) (λ h. h);
}
