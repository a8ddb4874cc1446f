-- What the element reader returns, by its own tests.
use Prim.Native.Nat.{ℕ, suc, ◌+◌, ◌-◌, ◌*◌, ◌%◌, ◌≤◌, ◌<◌}
use mathlib.Core.Path.{◌≡◌, refl, sym, ap, ◌∙◌}
use mathlib.Core.Bool.{true, true≢false}
use mathlib.Core.List.{List, [], ◌∷◌}
use native.Mathlib.Omega.{arith}
use native.Mathlib.Numerals.{add-one, add-two, add-three, add-four}
use lib.ListN.{length, get_or, length-drop}
use lib.Seq.{slice, slice-cons, length-slice, length-take-le}
use lib.Dec.{ltb, leb}
use borrow.Author.Tests.{lt-ltb, le-ltb, le-leb, lt-leb, ltb-true, ltb-false, leb-true, leb-false, eq-eqb, ne_eqb}
use Rattle.octets.proofs.Cases.{by_cases}
use Rattle.reading.specs.Reader.{refused, truncated, long1, long2, read_length, content_after, read_element}
use Rattle.std.specs.Prelude.{Ok, Err}
use Rattle.der.specs.Places.{Answer, found, place_element, element_at, placed_at, tag_fits, tagged_at, value_at, found?}
use Rattle.der.specs.Runs.{start_of, end_of}
use Rattle.der.specs.declared.Element.{Element}
use Rattle.der.specs.declared.ElementError.{ElementError}
use Rattle.der.specs.declared.ElementError.TheVariants.{Truncated, BadLength, BadTag}

-- too few bytes for a tag and a length; for a length of two bytes; for one of three
too_few : (l : List ℕ) → length l < 2 → read_element l ≡ refused truncated
unfolding read_element read_length content_after
too_few [] h = refl
too_few (t ∷ []) h = refl
too_few (t ∷ x ∷ l) h = absurd (omega arith)

too_few_1 : (l : List ℕ) → length l < 1 → long1 l ≡ refused truncated
unfolding long1
too_few_1 [] h = refl
too_few_1 (y ∷ l) h = absurd (omega arith)

too_few_2 : (l : List ℕ) → length l < 2 → long2 l ≡ refused truncated
unfolding long2
too_few_2 [] h = refl
too_few_2 (y ∷ []) h = refl
too_few_2 (y ∷ z ∷ l) h = absurd (omega arith)

module _ (s : List ℕ) (end : ℕ) (fits : end ≤ length s) where
  abbrev byte : ℕ → ℕ
  byte i = get_or s i 0

  -- what follows a place, one byte at a time
  from : (at : ℕ) → at < end → slice at end s ≡ byte at ∷ slice (suc at) end s
  from at h = slice-cons at end s 0 h fits

  -- ---- the content

  module _ (t start n : ℕ) (h : start ≤ end) where
    pub placed_long : end - start < n → Err Truncated ≡ placed_at s t start n end
    unfolding placed_at place_element content_after
    placed_long k = rw (lt-leb n (length (slice start end s)) (omega (arith, length-slice start end s fits)))

    pub placed_found : n ≤ end - start → found t start (start + n) ≡ placed_at s t start n end
    unfolding placed_at place_element content_after
    placed_found k =
        let r = slice start end s in
        let e = length-slice start end s fits in
        let a : start ≡ end - (length r - n) - n = omega arith in
        let b : start + n ≡ end - (length r - n) = omega arith in
        simp (le-leb n (length r) (omega arith), length-drop n r, length-take-le n r (omega arith)) (λ i. found t (a i) (b i))

  -- ---- the tag and the length

  module _ (at : ℕ) (h : at ≤ end) where
    pub element_none : end - at < 2 → Err Truncated ≡ element_at s at end
    unfolding element_at place_element
    element_none k = rw (too_few (slice at end s) (omega (arith, length-slice at end s fits)))

    module _ (k : 2 ≤ end - at) (x : ℕ) (x_is : x ≡ byte (at + 1)) where
      opened : slice at end s ≡ byte at ∷ x ∷ slice (at + 2) end s
      opened = rw x_is (from at (omega arith) ∙ ap {B = List ℕ} (byte at ∷◌) (simp (add-one, add-two) (from (suc at) (omega arith))))

      pub element_short : x < 128 → (e : Answer) → e ≡ placed_at s (byte at) (at + 2) x end → e ≡ element_at s at end
      unfolding element_at placed_at read_element read_length
      element_short u e e_is = e_is ∙ rw (opened, lt-ltb x 128 u)

      pub element_other : 128 ≤ x → (x ≡ 129 → ⊥) → (x ≡ 130 → ⊥) → Err BadLength ≡ element_at s at end
      unfolding element_at place_element read_element read_length content_after
      element_other u v w = rw (opened, le-ltb x 128 u, ne_eqb x 129 v, ne_eqb x 130 w)

      module _ (v : x ≡ 129) where
        one : element_at s at end ≡ place_element end (content_after (byte at) (long1 (slice (at + 2) end s)))
        unfolding element_at read_element read_length
        one = rw (opened, v)

        pub one_none : end - at < 3 → Err Truncated ≡ element_at s at end
        unfolding place_element content_after
        one_none m = rw one (rw (too_few_1 (slice (at + 2) end s) (omega (arith, length-slice (at + 2) end s fits))))

        module _ (m : 3 ≤ end - at) (y : ℕ) (y_is : y ≡ byte (at + 2)) where
          step : slice (at + 2) end s ≡ y ∷ slice (at + 3) end s
          step = rw y_is (from (at + 2) (omega arith) ∙ rw (add-two, add-three))

          pub one_low : y < 128 → Err BadLength ≡ element_at s at end
          unfolding place_element content_after long1
          one_low u = rw (one, step, lt-leb 128 y u)

          pub one_is : 128 ≤ y → y < 256 → (e : Answer) → e ≡ placed_at s (byte at) (at + 3) y end → e ≡ element_at s at end
          unfolding placed_at long1
          one_is u w e e_is = e_is ∙ rw (one, step, le-leb 128 y u, lt-ltb y 256 w)

      module _ (v : x ≡ 130) where
        two : element_at s at end ≡ place_element end (content_after (byte at) (long2 (slice (at + 2) end s)))
        unfolding element_at read_element read_length
        two = rw (opened, v)

        pub two_none : end - at < 4 → Err Truncated ≡ element_at s at end
        unfolding place_element content_after
        two_none m = rw two (rw (too_few_2 (slice (at + 2) end s) (omega (arith, length-slice (at + 2) end s fits))))

        module _ (m : 4 ≤ end - at) (y z : ℕ) (y_is : y ≡ byte (at + 2)) (z_is : z ≡ byte (at + 3)) where
          steps : slice (at + 2) end s ≡ y ∷ z ∷ slice (at + 4) end s
          steps = rw (y_is, z_is) (from (at + 2) (omega arith) ∙ ap {B = List ℕ} (byte (at + 2) ∷◌) (simp (add-two, add-three, add-four) (from (suc (suc (suc at))) (omega arith))))

          pub two_low : y < 1 → Err BadLength ≡ element_at s at end
          unfolding place_element content_after long2
          two_low u = rw (two, steps, lt-leb 1 y u)

          pub two_is : 1 ≤ y → z < 256 → (e : Answer) → e ≡ placed_at s (byte at) (at + 4) (y * 256 + z) end → e ≡ element_at s at end
          unfolding placed_at long2
          two_is u w e e_is = e_is ∙ rw (two, steps, le-leb 1 y u, lt-ltb z 256 w)

-- ---- an element whose tag passes a test

module _ (s : List ℕ) (at end : ℕ) (e : Answer) (e_is : e ≡ element_at s at end) where
  module _ (w : ℕ) where
    pub tagged_none : (why : ElementError) → e ≡ Err why → Err why ≡ tagged_at s at end w
    unfolding tagged_at tag_fits
    tagged_none why f = rw (← e_is, f)

    pub tagged_same : (x : Element) → e ≡ Ok x → x.tag ≡ w → Ok x ≡ tagged_at s at end w
    unfolding tagged_at tag_fits
    tagged_same x f q = rw (← e_is, f, eq-eqb x.tag w q)

    pub tagged_other : (x : Element) → e ≡ Ok x → (x.tag ≡ w → ⊥) → Err BadTag ≡ tagged_at s at end w
    unfolding tagged_at tag_fits
    tagged_other x f q = rw (← e_is, f, ne_eqb x.tag w q)

  pub value_refused : (why : ElementError) → e ≡ Err why → Err why ≡ value_at s at end
  unfolding value_at tag_fits
  value_refused why f = rw (← e_is, f)

  pub value_bad : (x : Element) → e ≡ Ok x → x.tag % 32 ≡ 31 → Err BadTag ≡ value_at s at end
  unfolding value_at tag_fits
  value_bad x f q = rw (← e_is, f, eq-eqb (x.tag % 32) 31 q)

  pub value_good : (x : Element) → e ≡ Ok x → (x.tag % 32 ≡ 31 → ⊥) → Ok x ≡ value_at s at end
  unfolding value_at tag_fits
  value_good x f q = rw (← e_is, f, ne_eqb (x.tag % 32) 31 q)

-- ---- an element that is there

-- it has a tag and a length
pub found_room : (s : List ℕ) (at end : ℕ) → at ≤ end → end ≤ length s → found? (element_at s at end) ≡ true → at + 2 ≤ end
found_room s at end h fits there =
    by_cases (ltb (end - at) 2) (λ e. absurd (true≢false (sym there ∙ ap found? (sym (element_none s end fits at h (ltb-true (end - at) 2 e))))))
    (λ e. omega (arith, ltb-false (end - at) 2 e))

-- one in short form, where the part has as many bytes as its length says
pub short_element : (s : List ℕ) (at end : ℕ) → at + 2 ≤ end → end ≤ length s → (x : ℕ) → x ≡ get_or s (at + 1) 0 → x < 128 → at + 2 + x ≤ end
    → element_at s at end ≡ found (get_or s at 0) (at + 2) (at + 2 + x)
short_element s at end h fits x x_is short k =
    sym (element_short s end fits at (omega arith) (omega arith) x x_is short _ (placed_found s end fits (get_or s at 0) (at + 2) x h (omega arith)))

module _ (s : List ℕ) (at end : ℕ) (h : at + 2 ≤ end) (fits : end ≤ length s) (there : found? (element_at s at end) ≡ true) where
  -- in short form
  module _ (x : ℕ) (x_is : x ≡ get_or s (at + 1) 0) (short : x < 128) where
    short_found : element_at s at end ≡ found (get_or s at 0) (at + 2) (at + 2 + x)
    short_found =
        by_cases (leb x (end - (at + 2))) (λ e. short_element s at end h fits x x_is short (omega (arith, leb-true x (end - (at + 2)) e)))
        (λ e.
        let gone = placed_long s end fits (get_or s at 0) (at + 2) x h (leb-false x (end - (at + 2)) e) in
        let none = element_short s end fits at (omega arith) (omega arith) x x_is short _ gone in
        absurd (true≢false (sym there ∙ ap found? (sym none))))

    pub short_end : at + 2 + x ≡ end_of (element_at s at end)
    unfolding end_of
    short_end = rw short_found

    pub short_start : at + 2 ≡ start_of (element_at s at end)
    unfolding start_of
    short_start = rw short_found

  module _ (e : Answer) (e_is : e ≡ element_at s at end) where
    -- in any form
    pub any_end : (x : Element) → e ≡ Ok x → x.next ≡ end_of (element_at s at end)
    unfolding end_of
    any_end x f = rw (← e_is, f)

    pub any_start : (x : Element) → e ≡ Ok x → x.start ≡ start_of (element_at s at end)
    unfolding start_of
    any_start x f = rw (← e_is, f)

    pub is_there : found? e ≡ true
    is_there = ap found? e_is ∙ there
