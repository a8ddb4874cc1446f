-- Readers, as functions: what stands at the front of a list of bytes, and readers put together from readers.
-- No grammar names them; contracts of code do. That they read what a grammar writes is proved in Codec.antt.
use Rattle.std.specs.Prelude.{ℕ, zero, suc, ◌+◌, ◌-◌, ◌*◌, Bool, true, false, cond, ◌&&◌, List, [], ◌∷◌, length, take, drop, ltb, leb, eqb}
use Rattle.std.proofs.Math.Option.{Option, none, some}
use Rattle.rules.specs.Der.{element, Group}

-- ---- answers

abbrev pub then : {A B : Type 0} → Option A → (A → Option B) → Option B
then none f = none
then (some a) f = f a

abbrev pub when : {A : Type 0} → Bool → Option A → Option A
when true o = o
when false o = none

abbrev pub is_some : {A : Type 0} → Option A → Bool
is_some none = false
is_some (some a) = true

-- why no element is read: the bytes end before it does, or its length is not definite and shortest
pub data Refusal : Type 0 where
  truncated : Refusal
  bad_length : Refusal

-- what stands at the front of a list of bytes: a value, and the bytes that follow it
pub data Front (A : Type 0) : Type 0 where
  got : A → List ℕ → Front A
  refused : Refusal → Front A

-- the front, where the test of its length holds
abbrev pub shortest : {A : Type 0} → Bool → Front A → Front A
shortest true o = o
shortest false o = refused bad_length

-- the front, where enough bytes are there
abbrev pub enough : {A : Type 0} → Bool → Front A → Front A
enough true o = o
enough false o = refused truncated

abbrev pub then_f : {A B : Type 0} → Front A → (A → List ℕ → Option B) → Option B
then_f (refused w) f = none
then_f (got a r) f = f a r

abbrev pub at_end : {A : Type 0} → List ℕ → Option A → Option A
at_end [] o = o
at_end (x ∷ r) o = none

-- ---- a length

-- after 81: a byte from 128 to 255
unfoldable pub long1 : List ℕ → Front ℕ
long1 [] = refused truncated
long1 (m ∷ r) = shortest (leb 128 m && ltb m 256) (got m r)

-- after 82: two bytes, from 256
unfoldable pub long2 : List ℕ → Front ℕ
long2 [] = refused truncated
long2 (hi ∷ []) = refused truncated
long2 (hi ∷ lo ∷ r) = shortest (leb 1 hi && ltb lo 256) (got (hi * 256 + lo) r)

unfoldable pub read_length : List ℕ → Front ℕ
read_length [] = refused truncated
read_length (n ∷ r) = cond (ltb n 128) (got n r) (cond (eqb n 0x81) (long1 r) (shortest (eqb n 0x82) (long2 r)))

-- ---- an element

-- an element's tag and content
pub record Raw : Type 0 where
  pub tag : ℕ
  pub content : List ℕ

abbrev pub raw : ℕ → List ℕ → Raw
raw t c = record { tag = t; content = c }

abbrev pub write_raw : Raw → List ℕ
write_raw r = element r.tag r.content

-- the content that a length announces
unfoldable pub content_after : ℕ → Front ℕ → Front Raw
content_after t (refused w) = refused w
content_after t (got n r) = enough (leb n (length r)) (got (raw t (take n r)) (drop n r))

unfoldable pub read_element : List ℕ → Front Raw
read_element [] = refused truncated
read_element (t ∷ b) = content_after t (read_length b)

-- ---- readers from readers

-- a value that is written as itself, with a test
abbrev pub as_is : {A : Type 0} → (A → Bool) → A → Option A
as_is good a = when (good a) (some a)

-- a test more
abbrev pub also : {A B : Type 0} → (A → Bool) → (B → Option A) → B → Option A
also h f b = then (f b) (as_is h)

-- the same value in another form
abbrev pub via : {A A' B : Type 0} → (A → A') → (B → Option A) → B → Option A'
via to f b = then (f b) (λ a. some (to a))

-- an element of one tag
abbrev pub tagged : {A : Type 0} → ℕ → (List ℕ → Option A) → Raw → Option A
tagged t f x = when (eqb x.tag t) (f x.content)

-- a group whose tag says its number: t and above
abbrev pub numbered_by : {A : Type 0} → ℕ → (List ℕ → Option (List A)) → Raw → Option (Group A)
numbered_by t f x =
    when (leb t x.tag) (then (f x.content) (λ m. some (record { number = x.tag - t; members = m })))

-- one element and nothing after it: "An element fills its parent exactly."
abbrev pub alone : {A : Type 0} → (Raw → Option A) → List ℕ → Option A
alone f b = then_f (read_element b) (λ x r. at_end r (f x))

-- two elements and nothing after them
abbrev pub two : {A B : Type 0} → (Raw → Option A) → (Raw → Option B) → List ℕ → Option (A × B)
two f g b = then_f (read_element b) (λ x r. then (f x) (λ a. then (alone g r) (λ d. some (a, d))))

-- a run of elements, to the end; n is at least the number of bytes
unfoldable pub read_items : {A : Type 0} → (Raw → Option A) → ℕ → List ℕ → Option (List A)
read_items f zero [] = some []
read_items f zero (x ∷ b) = none
read_items f (suc n) [] = some []
read_items f (suc n) (x ∷ b) =
    then_f (read_element (x ∷ b)) (λ y r. then (f y) (λ a. then (read_items f n r) (λ l. some (a ∷ l))))

abbrev pub items : {A : Type 0} → (Raw → Option A) → List ℕ → Option (List A)
items f b = read_items f (length b) b
