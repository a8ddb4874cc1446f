-- A quoted text as the list of its bytes, and bytes written in hexadecimal as document 01 writes them, so that examples can be read.
use Prim.Native.Nat.{ℕ, zero, suc, ◌+◌, ◌-◌, ◌*◌, ◌/◌}
use Prim.Native.Char.{code}
use Prim.Native.String.{String, len, char_at}
use mathlib.Core.Bool.{cond}
use mathlib.Core.List.{List, [], ◌∷◌}
use lib.Dec.{ltb}

-- n bytes of a text of ASCII characters, from place i on
abbrev pub bytes_from : String → ℕ → ℕ → List ℕ
bytes_from s zero i = []
bytes_from s (suc n) i = code (char_at s i) ∷ bytes_from s n (suc i)

abbrev pub text : String → List ℕ
text s = bytes_from s (len s) 0

-- 0 to 9, A to F
abbrev pub hex_digit : ℕ → ℕ
hex_digit c = cond (ltb c 0x41) (c - 0x30) (c - 0x37)

-- n bytes of two digits each, single spaces between them, from place i on
abbrev pub hex_from : String → ℕ → ℕ → List ℕ
hex_from s zero i = []
hex_from s (suc n) i = (hex_digit (code (char_at s i)) * 16 + hex_digit (code (char_at s (i + 1)))) ∷ hex_from s n (i + 3)

abbrev pub hex : String → List ℕ
hex s = hex_from s ((len s + 1) / 3) 0
