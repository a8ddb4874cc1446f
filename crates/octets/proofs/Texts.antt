-- Two texts compared without case, part by part.
use Prim.Native.Nat.{ℕ, ◌+◌, ◌-◌, ◌*◌, ◌<◌, ◌≤◌, min}
use mathlib.Core.Path.{◌≡◌, refl, sym, ap, ap₂, ◌∙◌}
use mathlib.Core.List.{List, [], ◌∷◌}
use mathlib.Core.Bool.{Bool, true, false, ◌&&◌}
use native.Mathlib.Omega.{arith}
use lib.ListN.{length, take, length-take, drop_of_length-le}
use lib.Seq.{slice, length-slice, take-length}
use lib.Dec.{eqb, leb}
use lib.Bits.{bit_and, bit_or}
use borrow.Author.Tests.{eq-eqb, leb-true, leb-false}
use Rattle.words.specs.Words.{Number}
use Rattle.words.proofs.Values.{value_same}
use Rattle.words.proofs.Case.{same_words}
use Rattle.words.proofs.Letters.{others, same_but_case}
use Rattle.words.proofs.Ranges.{slice_cut, past, stop, final}
use Rattle.rules.specs.Names.{lower, same_text}
use Rattle.octets.specs.Texts.{same_part}
use Rattle.rules.proofs.Cases.{fails, by_cases}
use Rattle.octets.proofs.Compare.{text_append, text_lengths, each_is}

-- a text is the same as itself
same_self : (a : List ℕ) → same_text a a ≡ true
unfolding same_text
same_self [] = refl
same_self (x ∷ a) = rw (eq-eqb (lower x) (lower x) refl, same_self a)

module _ (a b : List ℕ) (n : ℕ) (a_long : n ≤ length a) (b_long : n ≤ length b) where
  part_cut : (start m end : ℕ) → start ≤ m → m ≤ end → end ≤ n → same_part a b start end ≡ same_part a b start m && same_part a b m end
  unfolding same_part
  part_cut start m end h k fits =
      rw (slice_cut a start m end h k (omega arith), slice_cut b start m end h k (omega arith))
      (text_append (slice start m a) (slice start m b) (slice m end a) (slice m end b)
      (length-slice start m a (omega arith) ∙ sym (length-slice start m b (omega arith))))

part_none : (a b : List ℕ) (at end : ℕ) → end ≤ at → same_part a b at end ≡ true
unfolding same_part same_text
part_none a b at end h = rw (none a, none b)
  where
    none : (s : List ℕ) → slice at end s ≡ []
    none s = drop_of_length-le (take end s) {i = at} (simp length-take (omega arith))

-- the whole
part_whole : (a b : List ℕ) (n : ℕ) → n ≡ length a → n ≡ length b → same_part a b 0 n ≡ same_text a b
unfolding same_part
part_whole a b n e f =
    ap₂ same_text (ap (λ k. take k a) e ∙ take-length a) (ap (λ k. take k b) f ∙ take-length b)

by_order : {P : Type 0} (m n : ℕ) → (m ≤ n → P) → (n < m → P) → P
by_order m n f g = by_cases (leb m n) (λ e. f (leb-true m n e)) (λ e. g (leb-false m n e))

-- what is left from `at` to the end is the same just where the part is
unfoldable pub PartLeft : List ℕ → List ℕ → ℕ → ℕ → ℕ → Type 0
PartLeft a b start end at = same_part a b start start && same_part a b at end ≡ same_part a b start end

pub part_begin : (a b : List ℕ) (start end : ℕ) → PartLeft a b start end start
unfolding PartLeft
part_begin a b start end = rw (part_none a b start start (omega arith))

module _ (a b : List ℕ) (start end : ℕ) (a_long : end ≤ length a) (b_long : end ≤ length b) (at : ℕ) (inv : PartLeft a b start end at) where
  part_past : (next : ℕ) → at ≤ next → next ≤ end → same_part a b at next ≡ true → PartLeft a b start end next
  unfolding PartLeft
  part_past = past (same_part a b) end (part_cut a b end a_long b_long) start end start at (omega arith) inv

  part_stop : (next : ℕ) → at ≤ next → next ≤ end → same_part a b at next ≡ false → false ≡ same_part a b start end
  unfolding PartLeft
  part_stop = stop (same_part a b) end (part_cut a b end a_long b_long) start end start at (omega arith) inv

  part_final : (last : ℕ) → start ≤ last → last ≤ at → at ≤ end → same_part a b last end ≡ same_part a b start end
  unfolding PartLeft
  part_final last h k l =
      rw (part_none a b start start (omega arith)) at
      (final (same_part a b) end (part_cut a b end a_long b_long) start end start at (omega arith) inv last h k l)

  pub part_end : end ≤ at → true ≡ same_part a b start end
  unfolding PartLeft
  part_end h = rw (part_none a b start start (omega arith), part_none a b at end h) at inv

-- ---- eight bytes

pub word_same : (a b : List ℕ) (at x y : ℕ) → at + 8 ≤ length a → at + 8 ≤ length b → Number 8 a at x → Number 8 b at y → x ≡ y
    → true ≡ same_part a b at (at + 8)
unfolding same_part
word_same a b at x y h k p q e =
    let l : slice at (at + 8) a ≡ slice at (at + 8) b =
    value_same (slice at (at + 8) a) (slice at (at + 8) b) p.bytes q.bytes
    (length-slice at (at + 8) a h ∙ sym (length-slice at (at + 8) b k)) (sym p.is ∙ e ∙ q.is) in
    rw (← l) (sym (same_self (slice at (at + 8) a)))

pub word_differs : (a b : List ℕ) (at x y : ℕ) → at + 8 ≤ length a → at + 8 ≤ length b → Number 8 a at x → Number 8 b at y
    → (bit_or x 0x2020202020202020 ≡ bit_or y 0x2020202020202020 → ⊥) → false ≡ same_part a b at (at + 8)
unfolding same_part
word_differs a b at x y h k p q n =
    fails (same_text (slice at (at + 8) a) (slice at (at + 8) b)) (λ e. n (same_words a b at at x y h k p q e))

-- words that differ in the bit of the case alone
pub word_cases : (a b : List ℕ) (at x y : ℕ) → at + 8 ≤ length a → at + 8 ≤ length b → Number 8 a at x → Number 8 b at y
    → bit_or x 0x2020202020202020 ≡ bit_or y 0x2020202020202020
    → eqb (bit_and (bit_and x 0x2020202020202020 * 4) (others 8 (bit_or x 0x2020202020202020)))
    (bit_and (bit_and y 0x2020202020202020 * 4) (others 8 (bit_or x 0x2020202020202020)))
    ≡ same_part a b at (at + 8)
unfolding same_part
word_cases a b at x y h k p q e = same_but_case a b at at x y h k p q e

-- ---- the whole text

module _ (a b : List ℕ) (n : ℕ) (a_long : n ≡ length a) (b_long : n ≡ length b) where
  pub whole_begin : PartLeft a b 0 n 0
  whole_begin = part_begin a b 0 n

  -- the eight bytes from `at` on, or the last eight, where fewer are left: those of them that were compared before are compared again
  module _ (last at w : ℕ) (is_last : last + 8 ≡ n) (is_w : w ≡ min at last) (inv : PartLeft a b 0 n at) (within : at < n)
      (same : Bool) (is_same : same ≡ same_part a b w (w + 8)) where
    rest_is : last < at → same ≡ same_part a b 0 n
    rest_is h =
        let e : w ≡ last = omega arith in
        is_same ∙ rw (e, is_last) (part_final a b 0 n (omega arith) (omega arith) at inv last (omega arith) (omega arith) (omega arith))

    whole_past : at ≤ last → same ≡ true → PartLeft a b 0 n (at + 8)
    whole_past h e =
        let z : w ≡ at = omega arith in
        part_past a b 0 n (omega arith) (omega arith) at inv (at + 8) (omega arith) (omega arith) (rw z at (sym is_same ∙ e))

    pub whole_differ : same ≡ false → false ≡ same_text a b
    whole_differ e =
        by_order at last
        (λ h. let z : w ≡ at = omega arith in
        part_stop a b 0 n (omega arith) (omega arith) at inv (at + 8) (omega arith) (omega arith) (rw z at (sym is_same ∙ e)))
        (λ h. sym e ∙ rest_is h)
        ∙ part_whole a b n a_long b_long

    pub whole_next : same ≡ true → 8 < n - at → PartLeft a b 0 n (at + 8)
    whole_next e h = whole_past (omega arith) e

    pub whole_end : same ≡ true → n - at ≤ 8 → true ≡ same_text a b
    whole_end e h =
        by_order at last
        (λ k. part_end a b 0 n (omega arith) (omega arith) (at + 8) (whole_past k e) (omega arith))
        (λ k. sym e ∙ rest_is k)
        ∙ part_whole a b n a_long b_long

  -- texts whose first eight bytes differ beyond the case
  pub whole_early : 8 ≤ n → (x y : ℕ) → Number 8 a 0 x → Number 8 b 0 y → (bit_or x 0x2020202020202020 ≡ bit_or y 0x2020202020202020 → ⊥)
      → false ≡ same_text a b
  whole_early h x y p q d =
      whole_differ (n - 8) 0 0 (omega arith) (omega arith) whole_begin (omega arith) false
      (word_differs a b 0 x y (omega arith) (omega arith) p q d) refl

-- what `same_word` and `same_text` return
pub ruleset word_laws = (word_same, word_differs, word_cases)

pub ruleset text_laws = (text_lengths, each_is, whole_begin, whole_early, whole_differ, whole_next, whole_end)
