-- Lists of bytes, and tests on lists. A text is a list of bytes.
use Rattle.std.specs.Prelude.{ℕ, suc, ◌+◌, Bool, true, false, cond, ◌&&◌, ◌||◌, List, [], ◌∷◌, take, drop, eqb, ltb}
use Rattle.std.proofs.Math.Option.{Option, none, some}

-- the len bytes of s from start on
unfoldable pub part : List ℕ → ℕ → ℕ → List ℕ
part s start len = take len (drop start s)

unfoldable pub sum : List ℕ → ℕ
sum [] = 0
sum (n ∷ lengths) = n + sum lengths

-- texts that stand end to end, by their lengths
unfoldable pub cut : List ℕ → List ℕ → List (List ℕ)
cut [] texts = []
cut (n ∷ lengths) texts = take n texts ∷ cut lengths (drop n texts)

abbrev pub some? : {A : Type 0} → List A → Bool
some? [] = false
some? (a ∷ l) = true

abbrev pub all : {A : Type 0} → (A → Bool) → List A → Bool
all p [] = true
all p (a ∷ l) = p a && all p l

abbrev pub any : {A : Type 0} → (A → Bool) → List A → Bool
any p [] = false
any p (a ∷ l) = p a || any p l

abbrev pub count : {A : Type 0} → (A → Bool) → List A → ℕ
count p [] = 0
count p (a ∷ l) = cond (p a) (suc (count p l)) (count p l)

-- the first that passes
abbrev pub find : {A : Type 0} → (A → Bool) → List A → Option A
find p [] = none
find p (a ∷ l) = cond (p a) (some a) (find p l)

-- a relation between each and the next
abbrev pub chain : {A : Type 0} → (A → A → Bool) → List A → Bool
chain p [] = true
chain p (a ∷ []) = true
chain p (a ∷ b ∷ l) = p a b && chain p (b ∷ l)

-- byte for byte the same
unfoldable pub same : List ℕ → List ℕ → Bool
same [] [] = true
same [] (y ∷ t) = false
same (x ∷ s) [] = false
same (x ∷ s) (y ∷ t) = eqb x y && same s t

-- ascending byte order, equal ones allowed
unfoldable pub up_to : List ℕ → List ℕ → Bool
up_to [] t = true
up_to (x ∷ s) [] = false
up_to (x ∷ s) (y ∷ t) = ltb x y || (eqb x y && up_to s t)

-- s begins with p
unfoldable pub begins : List ℕ → List ℕ → Bool
begins [] s = true
begins (x ∷ p) [] = false
begins (x ∷ p) (y ∷ s) = eqb x y && begins p s

-- what stands before the first byte that passes, and what stands after it; all and nothing where none passes
unfoldable pub before : (ℕ → Bool) → List ℕ → List ℕ
before p [] = []
before p (x ∷ s) = cond (p x) [] (x ∷ before p s)

unfoldable pub after : (ℕ → Bool) → List ℕ → List ℕ
after p [] = []
after p (x ∷ s) = cond (p x) s (after p s)

-- every byte below 128
unfoldable pub ascii : List ℕ → Bool
ascii = all (λ b. ltb b 128)
