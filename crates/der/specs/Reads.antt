-- An element that is found says what was read, as parts of the slice.
use Rattle.std.specs.Prelude.{ℕ, ◌+◌, ◌-◌, ◌≤◌, ◌<◌, Bool, List, [], ◌∷◌, ◌++◌, take, drop}
use Rattle.std.proofs.Math.Path.{◌≡◌, refl, sym}
use Rattle.std.proofs.Common.{ap, ◌∙◌, append_assoc, arith, length-append, drop-drop, drop_at, take_at, take-take, eqb-true}
use Rattle.std.proofs.Math.Bool.{true, false}
use Rattle.std.proofs.Math.Option.{Option, none, some}
use Rattle.std.proofs.Math.ListN.{length}
use Rattle.std.proofs.Math.Dec.{eqb}
use Rattle.std.proofs.Math.Seq.{slice, slice_empty, slice-cons, length-slice}
use Rattle.octets.proofs.Parts.{take_of_drop}
use Rattle.rules.specs.Der.{length_bytes, good_tag}
use Rattle.rules.specs.San.{good_value, sealed}
use Rattle.reading.specs.Reader.{then, truncated, bad_length, Front, got, refused, then_f, at_end, Raw, raw, write_raw, read_element, tagged, alone, two}
use Rattle.reading.specs.Strings.{read_value}
use Rattle.reading.proofs.Element.{element_sound, element_append}
use Rattle.std.specs.Prelude.{Ok, Err}
use Rattle.der.specs.Places.{Answer, found, place_element, element_at, tag_fits, tagged_at, value_at, found?}
use Rattle.der.specs.declared.Element.{Element}
use Rattle.der.specs.declared.ElementError.TheVariants.{Truncated, BadLength, BadTag}

-- ---- parts of parts

-- a part of a slice, as code cuts it
pub part_is : (s : List ℕ) (start end : ℕ) → start ≤ end → take (end - start) (drop start s) ≡ slice start end s
part_is s start end h =
    let n : start + (end - start) ≡ end = omega arith in
    take_of_drop (end - start) start s ∙ rw n

pub part_of_part : (s : List ℕ) (k from end : ℕ) → from + k ≤ end → take k (slice from end s) ≡ slice from (from + k) s
part_of_part s k from end h = take_of_drop k from (take end s) ∙ ap (drop from) (take-take (from + k) end s h)

back : (b p r : List ℕ) → b ≡ p ++ r → drop (length p) b ≡ r
back b p r e = rw e (drop_at p r (length p) refl)

-- an element is read at `at`: its tag, where its content starts, and where it ends
pub record Read (s : List ℕ) (at end tag start next : ℕ) : Type 0 where
  pub reads : read_element (slice at end s) ≡ got (raw tag (slice start next s)) (slice next end s)
  pub head : at < start
  pub body : start ≤ next
  pub rest : next ≤ end

module _ (s : List ℕ) (end : ℕ) (fits : end ≤ length s) (at : ℕ) (h : at ≤ end) where
  -- what is left of a part is the part from where it begins
  tail_is : (p r : List ℕ) → slice at end s ≡ p ++ r → r ≡ slice (at + length p) end s
  tail_is p r e = sym (back (slice at end s) p r e) ∙ drop-drop (length p) at (take end s)

  -- a part that is a head p, a content c and a rest r, as places
  module _ (p c r : List ℕ) (e : slice at end s ≡ p ++ (c ++ r)) where
    size : end - at ≡ length p + (length c + length r)
    size = sym (length-slice at end s fits) ∙ simp length-append at (ap length e)

    start_is : at + length p ≡ end - length r - length c
    start_is = omega (arith, size)

    content_is : c ≡ slice (end - length r - length c) (end - length r) s
    content_is =
        let q : c ++ r ≡ slice (end - length r - length c) end s = rw start_is at (tail_is p (c ++ r) e) in
        let n : end - length r - length c + length c ≡ end - length r = omega (arith, size) in
        sym (take_at c r (length c) refl) ∙ rw q (part_of_part s (length c) (end - length r - length c) end (omega (arith, size)) ∙ rw n)

    rest_is : r ≡ slice (end - length r) end s
    rest_is =
        let n : at + length (p ++ c) ≡ end - length r = simp length-append (omega (arith, size)) in
        rw n at (tail_is (p ++ c) r (e ∙ sym (append_assoc p c r)))

  found_of : (x : Raw) (r : List ℕ) → read_element (slice at end s) ≡ got x r → Read s at end x.tag (end - length r - length x.content) (end - length r)
  found_of x r e =
      let c = x.content in
      let p : List ℕ = x.tag ∷ length_bytes (length c) in
      let q : slice at end s ≡ p ++ (c ++ r) = element_sound (slice at end s) e ∙ element_append x.tag c r in
      let z = size p c r q in
      record {
        reads = e ∙ (λ i. got (raw x.tag (content_is p c r q i)) (rest_is p c r q i));
        head = omega arith;
        body = omega arith;
        rest = omega arith;
      }

  -- the code's answer says what the reader reads
  pub found_read : (x : Element) → element_at s at end ≡ Ok x → Read s at end x.tag x.start x.next
  unfolding element_at place_element
  found_read x e = go (read_element (slice at end s)) refl
    where
      go : (o : Front Raw) → read_element (slice at end s) ≡ o → Read s at end x.tag x.start x.next
      go (refused truncated) f = let k : ◌≡◌ {A = Answer} (Err Truncated) (Ok x) = sym (ap (place_element end) f) ∙ e in let z : ◌≡◌ {A = ℕ} 0 1 = cc in absurd (omega arith)
      go (refused bad_length) f = let k : ◌≡◌ {A = Answer} (Err BadLength) (Ok x) = sym (ap (place_element end) f) ∙ e in let z : ◌≡◌ {A = ℕ} 0 1 = cc in absurd (omega arith)
      go (got y r) f =
          let k : found y.tag (end - length r - length y.content) (end - length r) ≡ Ok x = sym (ap (place_element end) f) ∙ e in
          let a : record { tag = y.tag; start = end - length r - length y.content; next = end - length r } ≡ x = cc in
          rw (← a) (found_of y r f)

  pub refused_read : {B : Type 0} (K : Raw → List ℕ → Option B) → found? (element_at s at end) ≡ false → then_f (read_element (slice at end s)) K ≡ none
  unfolding element_at place_element
  refused_read {B} K e = go (read_element (slice at end s)) refl
    where
      go : (o : Front Raw) → read_element (slice at end s) ≡ o → then_f o K ≡ none
      go (refused w) f = refl
      go (got x r) f =
          let k : true ≡ false = sym (ap (λ o. found? (place_element end o)) f) ∙ e in
          let z : ◌≡◌ {A = ℕ} 0 1 = cc in absurd (omega arith)

-- ---- an element whose tag passes a test

fits_found : (p : ℕ → Bool) (e : Answer) (x : Element) → tag_fits p e ≡ Ok x → (p x.tag ≡ true) × (e ≡ Ok x)
unfolding tag_fits
fits_found p (Err why) x e = let z : ◌≡◌ {A = ℕ} 0 1 = cc in absurd (omega arith)
fits_found p (Ok y) x e = go (p y.tag) refl
  where
    go : (q : Bool) → p y.tag ≡ q → (p x.tag ≡ true) × (◌≡◌ {A = Answer} (Ok y) (Ok x))
    go true f =
        let k : ◌≡◌ {A = Answer} (Ok y) (Ok x) = rw (f, tag_fits) at e in
        let v : x ≡ y = cc in
        (rw v f, k)
    go false f =
        let k : ◌≡◌ {A = Answer} (Err BadTag) (Ok x) = rw (f, tag_fits) at e in
        let z : ◌≡◌ {A = ℕ} 0 1 = cc in absurd (omega arith)

-- nothing after it
pub end_here : {A : Type 0} (s : List ℕ) (end : ℕ) (o : Option A) → at_end (slice end end s) o ≡ o
end_here s end o = rw (slice_empty end s)

pub end_later : {A : Type 0} (s : List ℕ) (n end : ℕ) (o : Option A) → n < end → end ≤ length s → at_end (slice n end s) o ≡ none
end_later s n end o h fits = rw (slice-cons n end s 0 h fits)

no_end : {A : Type 0} (r : List ℕ) → ◌≡◌ {A = Option A} (at_end r none) none
no_end [] = refl
no_end (x ∷ r) = refl

module _ (s : List ℕ) (end : ℕ) (fits : end ≤ length s) (at : ℕ) (h : at ≤ end) where
  -- a reader that wants the test reads nothing where the test fails
  pub fits_refused : {B : Type 0} (p : ℕ → Bool) (K : Raw → List ℕ → Option B) → ((x : Raw) (r : List ℕ) → p x.tag ≡ false → K x r ≡ none)
      → found? (tag_fits p (element_at s at end)) ≡ false → then_f (read_element (slice at end s)) K ≡ none
  unfolding tag_fits
  fits_refused {B} p K k e = go (element_at s at end) refl
    where
      go : (o : Answer) → element_at s at end ≡ o → then_f (read_element (slice at end s)) K ≡ none
      go (Err why) f = refused_read s end fits at h K (rw f)
      go (Ok x) f = tell (p x.tag) refl
        where
          tell : (q : Bool) → p x.tag ≡ q → then_f (read_element (slice at end s)) K ≡ none
          tell true g =
              let c : true ≡ false = rw (f, tag_fits, g) at e in
              let z : ◌≡◌ {A = ℕ} 0 1 = cc in absurd (omega arith)
          tell false g = rw (found_read s end fits at h x f).reads (k (raw x.tag (slice x.start x.next s)) (slice x.next end s) g)

  module _ {A : Type 0} (w : ℕ) (f : List ℕ → Option A) where
    wrong_tag : (x : Raw) → eqb x.tag w ≡ false → tagged w f x ≡ none
    wrong_tag x e = rw e

    module _ (e : Answer) (e_is : e ≡ tagged_at s at end w) where
      pub alone_none : found? e ≡ false → alone (tagged w f) (slice at end s) ≡ none
      unfolding tagged_at
      alone_none q = fits_refused (λ t. eqb t w) _ (λ x r d. rw (wrong_tag x d) (no_end r)) (rw e_is at q)

      pub two_none : {B : Type 0} (g : Raw → Option B) → found? e ≡ false → two (tagged w f) g (slice at end s) ≡ none
      unfolding tagged_at
      two_none g q = fits_refused (λ t. eqb t w) _ (λ x r d. rw (wrong_tag x d)) (rw e_is at q)

      module _ (x : Element) (found : e ≡ Ok x) where
        tagged_found : (eqb x.tag w ≡ true) × (element_at s at end ≡ Ok x)
        unfolding tagged_at
        tagged_found = fits_found (λ t. eqb t w) (element_at s at end) x (sym e_is ∙ found)

        pub tagged_read : Read s at end x.tag x.start x.next
        tagged_read = found_read s end fits at h x tagged_found.1

        pub tagged_is : x.tag ≡ w
        tagged_is = eqb-true x.tag w tagged_found.0

        pub alone_open : (x.next ≡ end → ⊥) → alone (tagged w f) (slice at end s) ≡ none
        alone_open q =
            rw tagged_read.reads (end_later s x.next end _ (omega (arith, tagged_read.rest)) fits)

        pub alone_found : x.next ≡ end → alone (tagged w f) (slice at end s) ≡ f (slice x.start end s)
        alone_found q = rw (tagged_read.reads, q) (end_here s end _ ∙ rw tagged_found.0)

        pub two_found : {B : Type 0} (g : Raw → Option B) → two (tagged w f) g (slice at end s) ≡ then (f (slice x.start x.next s)) (λ a. then (alone g (slice x.next end s)) (λ d. some (a, d)))
        two_found g = rw (tagged_read.reads, tagged_found.0)

  -- ---- a value: any tag that is good

  bad_value : (x : Raw) → good_tag x.tag ≡ false → read_value x ≡ none
  unfolding good_value
  bad_value x e = rw e

  module _ (e : Answer) (e_is : e ≡ value_at s at end) where
    pub value_none : found? e ≡ false → alone read_value (slice at end s) ≡ none
    unfolding value_at
    value_none q = fits_refused good_tag _ (λ x r d. rw (bad_value x d) (no_end r)) (rw e_is at q)

    module _ (x : Element) (found : e ≡ Ok x) where
      value_found : (good_tag x.tag ≡ true) × (element_at s at end ≡ Ok x)
      unfolding value_at
      value_found = fits_found good_tag (element_at s at end) x (sym e_is ∙ found)

      pub value_read : Read s at end x.tag x.start x.next
      value_read = found_read s end fits at h x value_found.1

      pub value_open : (x.next ≡ end → ⊥) → alone read_value (slice at end s) ≡ none
      value_open q = rw value_read.reads (end_later s x.next end _ (omega (arith, value_read.rest)) fits)

      pub value_is : x.next ≡ end → alone read_value (slice at end s) ≡ some (raw x.tag (slice x.start end s))
      unfolding good_value sealed
      value_is q = rw (value_read.reads, q) (end_here s end _ ∙ rw value_found.0)

-- ---- the whole element

-- an element that is read is the part from where it was read to what follows
pub whole_element : (s : List ℕ) (at end t b n : ℕ) → end ≤ length s → Read s at end t b n → slice at n s ≡ write_raw (raw t (slice b n s))
whole_element s at end t b n fits did =
    let w = element_sound (slice at end s) did.reads in
    let z = simp (length-append, length-slice at end s fits, length-slice n end s fits) at (ap length w) in
    let m : at + (n - at) ≡ n = omega (arith, did.head, did.body) in
    let q = part_of_part s (n - at) at end (omega (arith, did.head, did.body, did.rest)) in
    sym (rw m at q) ∙ rw w (take_at (write_raw (raw t (slice b n s))) (slice n end s) (n - at) (omega (arith, z, did.head, did.body, did.rest)))
