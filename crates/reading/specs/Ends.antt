-- Bytes that end in a text: an element ends in what its content ends in.
use Rattle.std.specs.Prelude.{◌≡◌, refl, List, [], ◌∷◌, ◌++◌, ℕ, length}
use Rattle.std.proofs.Common.{sym, ap, ◌∙◌, append_assoc}
use Rattle.rules.specs.Der.{length_bytes, element}

pub record EndsIn (b text : List ℕ) : Type 0 where
  pub front : List ℕ
  pub is : b ≡ front ++ text

pub ends_append : (a : List ℕ) {b text : List ℕ} → EndsIn b text → EndsIn (a ++ b) text
ends_append a {b} {text} e = record { front = a ++ e.front; is = ap (λ x. a ++ x) e.is ∙ sym (append_assoc a e.front text) }

pub ends_element : (t : ℕ) {c text : List ℕ} → EndsIn c text → EndsIn (element t c) text
unfolding element
ends_element t {c} e = ends_append (t ∷ length_bytes (length c)) e

pub ends_self : (text : List ℕ) → EndsIn text text
ends_self text = record { front = []; is = refl }
