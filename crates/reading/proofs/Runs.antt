-- A run of elements as a loop meets it: at its end, at an element that is refused, at one that is read.
use Prim.Native.Nat.{ℕ, zero, suc, ◌≤◌, ◌<◌}
use Rattle.std.specs.Prelude.{◌≡◌, length}
use Rattle.std.proofs.Math.Path.{refl}
use Rattle.std.proofs.Common.{◌∙◌, arith, length-append}
use Rattle.std.proofs.Math.Option.{Option, none, some}
use mathlib.Core.List.{List, [], ◌∷◌}
use Rattle.rules.specs.Bytes.{some?}
use Rattle.reading.specs.Reader.{then, Front, got, refused, then_f, Raw, read_element, as_is, also, read_items, items}
use Rattle.reading.specs.Answers.{no_some, then_some, then_f_some}
use Rattle.reading.proofs.Element.{element_sound, element_append}

-- what follows an element is shorter
shorter : (b : List ℕ) {x : Raw} {r : List ℕ} → read_element b ≡ got x r → length r < length b
shorter b {x} {r} e = rw (element_sound b e, element_append) (simp length-append (omega arith))

then_f_cong : {A B : Type 0} (o : Front A) (g g' : A → List ℕ → Option B) → ((a : A) (r : List ℕ) → o ≡ got a r → g a r ≡ g' a r) → then_f o g ≡ then_f o g'
then_f_cong (refused w) g g' h = refl
then_f_cong (got a r) g g' h = h a r refl

module _ {A : Type 0} (f : Raw → Option A) where
  -- more than enough changes nothing
  fuel : (n m : ℕ) (b : List ℕ) → length b ≤ n → length b ≤ m → read_items f n b ≡ read_items f m b
  unfolding read_items
  fuel zero zero [] h k = refl
  fuel zero (suc m) [] h k = refl
  fuel (suc n) zero [] h k = refl
  fuel (suc n) (suc m) [] h k = refl
  fuel zero m (x ∷ b) h k = absurd (omega arith)
  fuel (suc n) zero (x ∷ b) h k = absurd (omega arith)
  fuel (suc n) (suc m) (x ∷ b) h k = then_f_cong (read_element (x ∷ b)) _ _
      (λ y r e. let s = shorter (x ∷ b) e in rw (fuel n m r (omega arith) (omega arith)))

  pub items_end : items f [] ≡ some []
  unfolding read_items
  items_end = refl

  -- one element and the rest
  pub items_open : (b : List ℕ) → 1 ≤ length b → items f b ≡ then_f (read_element b) (λ x r. then (f x) (λ a. then (items f r) (λ l. some (a ∷ l))))
  unfolding read_items
  items_open [] h = absurd (omega arith)
  items_open (y ∷ b) h = then_f_cong (read_element (y ∷ b)) _ _
      (λ x r e. rw (fuel (length b) (length r) r (omega (arith, shorter (y ∷ b) e)) (omega arith)))

  pub items_next : (b : List ℕ) (x : Raw) (r : List ℕ) → read_element b ≡ got x r → items f b ≡ then (f x) (λ a. then (items f r) (λ l. some (a ∷ l)))
  items_next b x r e = items_open b (omega (arith, shorter b e)) ∙ rw e

  -- some bytes are no empty run
  pub items_some : (b : List ℕ) → 1 ≤ length b → also some? (items f) b ≡ items f b
  items_some b h = rw (items_open b h) (go (read_element b))
    where
      tail : (x : Raw) (o : Option (List A)) (p : Option A) → then (then p (λ a. then o (λ l. some (a ∷ l)))) (as_is some?) ≡ then p (λ a. then o (λ l. some (a ∷ l)))
      tail x o none = refl
      tail x none (some a) = refl
      tail x (some l) (some a) = refl

      go : (o : Front Raw) → then (then_f o (λ x r. then (f x) (λ a. then (items f r) (λ l. some (a ∷ l))))) (as_is some?) ≡ then_f o (λ x r. then (f x) (λ a. then (items f r) (λ l. some (a ∷ l))))
      go (refused w) = refl
      go (got x r) = tail x (items f r) (f x)

  -- each item takes at least one byte
  size : (n : ℕ) (b : List ℕ) {l : List A} → read_items f n b ≡ some l → length l ≤ length b
  unfolding read_items
  size zero [] {l} e =
      let q : l ≡ [] = cc in
      rw q (omega arith)
  size zero (x ∷ b) e = absurd (no_some e)
  size (suc n) [] {l} e =
      let q : l ≡ [] = cc in
      rw q (omega arith)
  size (suc n) (x ∷ b) {l} e =
      then_f_some (read_element (x ∷ b)) _ e λ y r p q.
      then_some (f y) _ q λ a s t.
      then_some (read_items f n r) _ t λ l' u v.
      let k : l ≡ a ∷ l' = cc in
      rw k (omega (arith, shorter (x ∷ b) p, size n r u))

  pub items_size : (b : List ℕ) {l : List A} → items f b ≡ some l → length l ≤ length b
  items_size b e = size (length b) b e
