-- What is put into a lent buffer.
use Rattle.std.specs.Prelude.{ℕ, suc, ◌+◌, ◌≤◌, ◌≡◌, List, ◌∷◌, ◌++◌, length, take, drop}
use Rattle.rules.specs.Der.{length_bytes}

-- the buffer, with s in the place of its bytes from `at` on
unfoldable pub pasted : List ℕ → ℕ → List ℕ → List ℕ
pasted buffer at s = take at buffer ++ s ++ drop (at + length s) buffer

-- s lies within the buffer from `at` on
unfoldable pub Fits : List ℕ → ℕ → List ℕ → Type 0
Fits buffer at s = at + length s ≤ length buffer

-- from one buffer to another s was put at `at`, and `next` is the place past it
unfoldable pub Put : List ℕ → ℕ → List ℕ → List ℕ → ℕ → Type 0
Put buffer at s after next = (after ≡ pasted buffer at s) × (next ≡ at + length s)

-- what stands before the content of an element
unfoldable pub start : ℕ → ℕ → List ℕ
start tag n = tag ∷ length_bytes n

-- how many bytes an element has whose content has n
unfoldable pub element_size : ℕ → ℕ
element_size n = suc (length (length_bytes n)) + n
