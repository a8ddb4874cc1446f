-- The key of a text: texts that are the same without case have the same, and what the code makes of a text's bytes is its key.
use Prim.Native.Nat.{ℕ, ◌+◌, ◌-◌, ◌*◌, ◌/◌, ◌%◌, ◌<◌, ◌≤◌}
use mathlib.Core.Path.{◌≡◌, sym, ap, ◌∙◌}
use mathlib.Core.Bool.{Bool, true, false}
use mathlib.Core.List.{List}
use native.Mathlib.Omega.{arith}
use lib.ListN.{length, get_or, take, drop, get_or-map}
use lib.Seq.{slice, length-slice}
use lib.Bits.{bit_or}
use borrow.Author.Tests.{lt-ltb, le-ltb}
use Rattle.rules.specs.Names.{same_text}
use Rattle.octets.proofs.Compare.{text_length_lem}
use Rattle.octets.proofs.Parts.{rest_is}
use Rattle.words.specs.Words.{Number, value, folded}
use Rattle.words.proofs.Case.{same_folded, folded_value, same_slice}
use Rattle.dns.proofs.Matching.{wild, wild_is}
use Rattle.filter.specs.Keys.{byte_at, halves, word_at, sum_of, spread, key_of, noted_text}

-- ---- one key for texts that are the same without case

module _ (a b : List ℕ) (e : same_text a b ≡ true) where
  same_byte : (i : ℕ) → byte_at a i ≡ byte_at b i
  unfolding byte_at folded
  same_byte i =
      let f : ℕ → ℕ = λ x. bit_or x 32 in
      sym (get_or-map f a i 0) ∙ ap (λ l. get_or l i 32) (same_folded a b e) ∙ get_or-map f b i 0

  same_word : (at : ℕ) → word_at a at ≡ word_at b at
  unfolding word_at
  same_word at = ap (λ l. halves (value l)) (same_folded (slice at (at + 8) a) (slice at (at + 8) b) (same_slice at (at + 8) a b e))

  same_sum : sum_of a ≡ sum_of b
  unfolding sum_of
  same_sum =
      let n : length a ≡ length b = text_length_lem a b e in
      rw (n, same_byte 0, same_byte 1, same_byte (length b - 1), same_word 0, same_word 8, same_word (length b - 8), same_word (length b - 16))

  pub same_key : key_of a ≡ key_of b
  unfolding key_of
  same_key = ap spread same_sum

-- ---- what the code makes of a text

pub byte_is : (s : List ℕ) (i r : ℕ) → r ≡ bit_or (get_or s i 0) 0x20 → r ≡ byte_at s i
unfolding byte_at
byte_is s i r e = e

pub word_is : (s : List ℕ) (at x : ℕ) → at + 8 ≤ length s → Number 8 s at x
    → bit_or x 0x2020202020202020 % 0x100000000 + bit_or x 0x2020202020202020 / 0x100000000 % 0x100000000 ≡ word_at s at
unfolding word_at halves
word_is s at x fits p =
    let long : length (slice at (at + 8) s) ≡ 8 = length-slice at (at + 8) s fits ∙ omega arith in
    let e : bit_or x 0x2020202020202020 ≡ value (folded (slice at (at + 8) s)) =
    rw p.is (rw long at (folded_value (slice at (at + 8) s) p.bytes)) in
    rw e

module _ (s : List ℕ) where
  pub sum_none : length s < 2 → 0 ≡ sum_of s
  unfolding sum_of
  sum_none h = rw (lt-ltb _ _ h)

  pub sum_few : 2 ≤ length s → length s < 8 → (a b c : ℕ) → a ≡ byte_at s 0 → b ≡ byte_at s 1 → c ≡ byte_at s (length s - 1)
      → a + b * 0x100 + c * 0x10000 ≡ sum_of s
  unfolding sum_of
  sum_few h k a b c p q r = rw (le-ltb _ _ h, lt-ltb _ _ k, p, q, r)

  pub sum_two : 8 ≤ length s → length s < 16 → (a b : ℕ) → a ≡ word_at s 0 → b ≡ word_at s (length s - 8) → a + b * 3 ≡ sum_of s
  unfolding sum_of
  sum_two h k a b p q = rw (le-ltb (length s) 2 (omega arith), le-ltb _ _ h, lt-ltb _ _ k, p, q)

  pub sum_three : 16 ≤ length s → (a b c : ℕ) → a ≡ word_at s 0 → b ≡ word_at s 8 → c ≡ word_at s (length s - 16)
      → a + b * 3 + c * 5 ≡ sum_of s
  unfolding sum_of
  sum_three h a b c p q r = rw (le-ltb (length s) 2 (omega arith), le-ltb (length s) 8 (omega arith), le-ltb _ _ h, p, q, r)

  pub key_is : (n : ℕ) → n ≡ sum_of s → n % 0x100000000 * 0x9E3779B1 / 0x100000 % 16384 ≡ key_of s
  unfolding key_of spread
  key_is n e = rw e

  -- the text by which a dNSName is noted
  module _ (w : Bool) (is_wild : w ≡ wild s) where
    pub wild_long : w ≡ true → 2 ≤ length s
    wild_long e = rw (wild_is s (sym is_wild ∙ e)) (omega arith)

    pub noted_wild : w ≡ true → (r : ℕ) → r ≡ key_of (take (length s - 2) (drop 2 s)) → r ≡ key_of (noted_text s)
    unfolding noted_text
    noted_wild e r f = rw (← is_wild, e) (rw (rest_is s 2) at f)

    pub noted_plain : w ≡ false → (r : ℕ) → r ≡ key_of s → r ≡ key_of (noted_text s)
    unfolding noted_text
    noted_plain e r f = rw (← is_wild, e) f
