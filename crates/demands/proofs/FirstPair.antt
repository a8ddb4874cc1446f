-- The first place in a list and in what its elements have: the first entry that breaks a string, the first breach, and the first pair
-- that matches.
use Prim.Native.Nat.{ℕ, zero, suc, ◌+◌, ◌≤◌, ◌<◌}
use mathlib.Core.Path.{◌≡◌, refl, sym, ap, subst, ◌∙◌}
use mathlib.Core.Logic.{◌⊎◌, inl, inr}
use mathlib.Core.Bool.{Bool, true, false}
use mathlib.Core.Option.{Option, none, some, some-injective}
use mathlib.Core.List.{List, [], ◌∷◌}
use native.Mathlib.Omega.{arith}
use lib.ListN.{get_elem?}
use lib.Dec.{T}
use Rattle.rules.specs.Bytes.{find}
use Rattle.rules.specs.Records.{Reference}
use Rattle.rules.specs.Der.{Member}
use Rattle.rules.specs.San.{GeneralName}
use Rattle.rules.specs.Matching.{Pair, presented_to, matches, pair_or, first_pair, breaks, first_broken, breach_or, first_breach}
use Rattle.rules.specs.declared.Breach.{Breach}
use Rattle.rules.proofs.Cases.{by_cases, is_true, clash}
use Rattle.reading.specs.Answers.{no_some}
use Rattle.demands.specs.Statements.{Names, MatchesAt}

-- ---- places: an element of a list, and a place that it has

-- P a j: the element a has the place j
module _ {A : Type 0} (P : A → ℕ → Type 0) where
  -- the element at i has the place j
  pub record PlaceAt (l : List A) (i j : ℕ) : Type 0 where
    pub element : A
    pub at : get_elem? l i ≡ some element
    pub has : P element j

  -- every place is that of a later element, or of the same and no lower
  abbrev pub FirstPlace : List A → ℕ → ℕ → Type 0
  FirstPlace l i j = (i' j' : ℕ) → PlaceAt l i' j' → (i < i') ⊎ ((i ≡ i') × (j ≤ j'))

  at_head : (a : A) (l : List A) (j : ℕ) → PlaceAt (a ∷ l) 0 j → P a j
  at_head a l j p = subst (λ x. P x j) (sym (some-injective a p.element p.at)) p.has

  at_tail : (a : A) (l : List A) (i j : ℕ) → PlaceAt (a ∷ l) (suc i) j → PlaceAt l i j
  at_tail a l i j p = record { element = p.element; at = p.at; has = p.has }

  -- the head's first place is the first; where it has none the first behind it is
  first_head : (a : A) (l : List A) (j : ℕ) → ((k : ℕ) → P a k → j ≤ k) → FirstPlace (a ∷ l) 0 j
  first_head a l j f zero j' p = inr (refl, f j' (at_head a l j' p))
  first_head a l j f (suc i') j' p = inl (omega arith)

  first_tail : (a : A) (l : List A) (i j : ℕ) → ((k : ℕ) → ¬ P a k) → FirstPlace l i j → FirstPlace (a ∷ l) (suc i) j
  first_tail a l i j n f zero j' p = absurd (n j' (at_head a l j' p))
  first_tail a l i j n f (suc i') j' p = go (f i' j' (at_tail a l i' j' p))
    where
      go : (i < i') ⊎ ((i ≡ i') × (j ≤ j')) → (suc i < suc i') ⊎ ((suc i ≡ suc i') × (j ≤ j'))
      go (inl h) = inl (omega arith)
      go (inr h) = inr (ap suc h.0, h.1)

  no_lower : (l : List A) (i j : ℕ) → FirstPlace l i j → (i' j' : ℕ) → PlaceAt l i' j' → i ≤ i'
  no_lower l i j f i' j' p = go (f i' j' p)
    where
      go : (i < i') ⊎ ((i ≡ i') × (j ≤ j')) → i ≤ i'
      go (inl h) = omega arith
      go (inr h) = omega (arith, h.0)

  -- a search, whose elements count from i, and what it makes of a place
  module _ {X : Type 0} (make : ℕ → (a : A) (j : ℕ) → P a j → X) (search_from : ℕ → List A → Option X) where
    -- what it finds is the first place; it finds none where there is none
    pub data Finds (i : ℕ) (l : List A) : Type 0 where
      found : (k j : ℕ) (p : PlaceAt l k j) → FirstPlace l k j → search_from i l ≡ some (make (i + k) p.element j p.has) → Finds i l
      missing : ((k j : ℕ) → ¬ PlaceAt l k j) → search_from i l ≡ none → Finds i l

    -- what it does at the head
    pub data Step (i : ℕ) (a : A) (l : List A) : Type 0 where
      stops : (j : ℕ) (h : P a j) → ((k : ℕ) → P a k → j ≤ k) → search_from i (a ∷ l) ≡ some (make i a j h) → Step i a l
      goes_on : ((k : ℕ) → ¬ P a k) → search_from i (a ∷ l) ≡ search_from (suc i) l → Step i a l

    pub finds : ((i : ℕ) → search_from i [] ≡ none) → ((i : ℕ) (a : A) (l : List A) → Step i a l) → (i : ℕ) (l : List A) → Finds i l
    finds ends step i [] = missing (λ k j p. no_some p.at) (ends i)
    finds ends step i (a ∷ l) = go (step i a l) (finds ends step (suc i) l)
      where
        go : Step i a l → Finds (suc i) l → Finds i (a ∷ l)
        go (stops j h f e) rest =
            let z : i ≡ i + 0 = omega arith in
            found 0 j (record { element = a; at = refl; has = h }) (first_head a l j f) (e ∙ ap (λ n. some (make n a j h)) z)
        go (goes_on n e) (found k j p f q) =
            let z : suc i + k ≡ i + suc k = omega arith in
            found (suc k) j (record { element = p.element; at = p.at; has = p.has }) (first_tail a l k j n f)
            (e ∙ q ∙ ap (λ n. some (make n p.element j p.has)) z)
        go (goes_on n e) (missing m q) = missing none_there (e ∙ q)
          where
            none_there : (k j : ℕ) → ¬ PlaceAt (a ∷ l) k j
            none_there zero j p = n j (at_head a l j p)
            none_there (suc k) j p = m k j (at_tail a l k j p)

-- ---- the first that passes a test

-- it has the place 0, and every other
module _ {A : Type 0} (p : A → Bool) where
  abbrev pub Passes : A → ℕ → Type 0
  Passes a j = T (p a)

  module _ {X : Type 0} (make : ℕ → A → X) (search_from : ℕ → List A → Option X) where
    first_passing :
        ((i : ℕ) → search_from i [] ≡ none)
        → ((i : ℕ) (a : A) (l : List A) → p a ≡ true → search_from i (a ∷ l) ≡ some (make i a))
        → ((i : ℕ) (a : A) (l : List A) → p a ≡ false → search_from i (a ∷ l) ≡ search_from (suc i) l)
        → (l : List A) → Finds Passes (λ i a j h. make i a) search_from 0 l
    first_passing ends here behind = finds Passes (λ i a j h. make i a) search_from ends step 0
      where
        step : (i : ℕ) (a : A) (l : List A) → Step Passes (λ i a j h. make i a) search_from i a l
        step i a l =
            by_cases (p a) (λ e. stops 0 (rw e tt) (λ k h. omega arith) (here i a l e))
            (λ e. goes_on (λ k h. clash (is_true (p a) h) e) (behind i a l e))

  found_first : (l : List A) → Finds Passes (λ i a j h. a) (λ i l. find p l) 0 l
  found_first = first_passing (λ i a. a) (λ i l. find p l) (λ i. refl) (λ i a l e. rw e) (λ i a l e. rw e)

-- the first entry that breaks a string
broken_first : (string : List (Member GeneralName)) (l : List GeneralName) → Finds (Passes (breaks string)) (λ i n j h. i) (λ i l. first_broken i string l) 0 l
unfolding first_broken
broken_first string =
    first_passing (breaks string) (λ i n. i) (λ i l. first_broken i string l) (λ i. refl) (λ i n l e. rw e) (λ i n l e. rw e)

-- ---- the first breach

module _ (san : List GeneralName) where
  -- the entry at j breaks the string
  abbrev pub EntryBreaks : List (Member GeneralName) → ℕ → Type 0
  EntryBreaks string j = PlaceAt (Passes (breaks string)) san j 0

  abbrev pub breach : ℕ → (string : List (Member GeneralName)) (j : ℕ) → EntryBreaks string j → Breach
  breach i string j h = record { issuer = i; presented = j }

  breach_step : (i : ℕ) (string : List (Member GeneralName)) (l : List (List (Member GeneralName))) → Step EntryBreaks breach (λ i l. first_breach i l san) i string l
  unfolding first_breach
  breach_step i string l = go (broken_first string san)
    where
      go : Finds (Passes (breaks string)) (λ i n j h. i) (λ i l. first_broken i string l) 0 san → Step EntryBreaks breach (λ i l. first_breach i l san) i string l
      go (missing n e) = goes_on (λ k p. n k 0 p) (ap (λ o. breach_or i o (first_breach (suc i) l san)) e)
      go (found k j p f e) =
          let z : 0 + k ≡ k = omega arith in
          stops k (record { element = p.element; at = p.at; has = p.has }) (λ k' q. no_lower (Passes (breaks string)) san k j f k' 0 q)
          (ap (λ o. breach_or i o (first_breach (suc i) l san)) e ∙ ap (λ n. some (record { issuer = i; presented = n })) z)

  no_breach : (i : ℕ) → first_breach i [] san ≡ none
  unfolding first_breach
  no_breach i = refl

  pub breaches : (l : List (List (Member GeneralName))) → Finds EntryBreaks breach (λ i l. first_breach i l san) 0 l
  breaches = finds EntryBreaks breach (λ i l. first_breach i l san) no_breach breach_step 0

-- ---- the first pair

module _ (l : Names) where
  abbrev pub pair : ℕ → (r : Reference) (j : ℕ) → MatchesAt l r j → Pair
  pair i r j m = record { index = i; reference = r; presented = m.presented }

  pair_step : (i : ℕ) (r : Reference) (rs : List Reference) → Step (MatchesAt l) pair (λ i rs. first_pair i rs l.san l.subject) i r rs
  unfolding first_pair
  pair_step i r rs = go (found_first (matches r) (presented_to r.kind l.san l.subject))
    where
      passing : (j : ℕ) → MatchesAt l r j → PlaceAt (Passes (matches r)) (presented_to r.kind l.san l.subject) j 0
      passing j m = record { element = m.presented; at = m.presented_at; has = m.matched }

      go : Finds (Passes (matches r)) (λ i a j h. a) (λ i l. find (matches r) l) 0 (presented_to r.kind l.san l.subject)
          → Step (MatchesAt l) pair (λ i rs. first_pair i rs l.san l.subject) i r rs
      go (missing n e) = goes_on (λ k m. n k 0 (passing k m)) (ap (λ o. pair_or i r o (first_pair (suc i) rs l.san l.subject)) e)
      go (found k j p f e) =
          stops k (record { presented = p.element; presented_at = p.at; matched = p.has })
          (λ k' m. no_lower (Passes (matches r)) _ k j f k' 0 (passing k' m))
          (ap (λ o. pair_or i r o (first_pair (suc i) rs l.san l.subject)) e)

  no_pair : (i : ℕ) → first_pair i [] l.san l.subject ≡ none
  unfolding first_pair
  no_pair i = refl

  pub pairs : (rs : List Reference) → Finds (MatchesAt l) pair (λ i rs. first_pair i rs l.san l.subject) 0 rs
  pairs = finds (MatchesAt l) pair (λ i rs. first_pair i rs l.san l.subject) no_pair pair_step 0
