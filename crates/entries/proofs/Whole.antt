-- Where the text of a name starts, by the first bytes of a name that has been validated: they are as the grammar writes them.
use Prim.Native.Nat.{ℕ, suc, ◌+◌, ◌-◌, ◌≤◌, ◌<◌}
use mathlib.Core.Path.{◌≡◌, refl, sym, ap, ◌∙◌}
use mathlib.Core.Bool.{Bool, true, false, cond, ◌&&◌}
use mathlib.Core.Option.{Option, none, some}
use mathlib.Core.List.{List, [], ◌∷◌, ◌++◌, append-nil}
use native.Mathlib.Omega.{arith}
use native.Mathlib.Numerals.{add-one, add-two, add-three, add-four}
use lib.ListN.{length, get_or, take, drop, length-append}
use lib.Seq.{slice, slice-cons, length-slice, take_at}
use lib.Dec.{T, ltb}
use borrow.Author.Tests.{eq-eqb, ne_eqb, lt-ltb, ltb-true}
use Rattle.octets.proofs.Cases.{by_cases}
use Rattle.octets.proofs.Compare.{same_lengths, same_equal}
use Rattle.rules.specs.Bytes.{same}
use Rattle.rules.specs.Der.{length_bytes, element, header}
use Rattle.rules.specs.San.{GeneralName, plain, other, srv_oid, tag_of, content_of, write_name, good_oid, good_value, good_name, name_kind}
use Rattle.rules.specs.Matching.{tagged_text, srv_text}
use Rattle.reading.specs.Reader.{is_some, got, raw, read_element}
use Rattle.reading.specs.Strings.{read_other}
use Rattle.reading.specs.Answers.{some_of, and_parts}
use Rattle.reading.proofs.Element.{element_length, element_complete}
use Rattle.reading.proofs.Codec.{alone_c}
use Rattle.reading.proofs.Codecs.{other_c, name_c}
use Rattle.std.specs.Prelude as std
use Rattle.std.specs.Prelude.{Result, Ok, Err, Some, None, unwrap_or}
use Rattle.der.specs.Places.{found, place_element, element_at, found?}
use Rattle.der.specs.Reads.{part_is, found_read, part_of_part}
use Rattle.der.specs.Runs.{start_of}
use Rattle.entries.specs.Entries.{text_tag_of, text_of, named, place_name, other_at, form_of, whole_at, place_text, text_place, text_start}
use Rattle.entries.specs.declared.Name.{Name}
use Rattle.entries.specs.declared.Unreadable.{Unreadable}
use Rattle.entries.specs.declared.NameForm.{NameForm}
use Rattle.entries.specs.declared.NameForm.TheVariants.{Srv, Dns}

-- ---- elements in short form

-- two bytes at least stand before a content, and two where it is short
header_least : (c : List ℕ) → 2 ≤ header c
unfolding header length_bytes
header_least c =
    by_cases (ltb (length c) 128) (λ e. rw e (omega arith))
    (λ e. by_cases (ltb (length c) 256) (λ f. rw (e, f) (omega arith)) (λ f. rw (e, f) (omega arith)))

header_short : (c : List ℕ) → length c < 128 → header c ≡ 2
unfolding header length_bytes
header_short c h = rw (lt-ltb (length c) 128 h)

element_short : (t : ℕ) (c : List ℕ) → length c < 128 → element t c ≡ t ∷ length c ∷ c
unfolding element length_bytes
element_short t c h = rw (lt-ltb (length c) 128 h)

-- a length that begins with a byte below 128 is that byte
record Short (n x : ℕ) (r rest : List ℕ) : Type 0 where
  low : n < 128
  rest_is : rest ≡ r

short_length : (n x : ℕ) (r rest : List ℕ) → length_bytes n ++ r ≡ x ∷ rest → x < 128 → Short n x r rest
unfolding length_bytes
short_length n x r rest e h =
    by_cases (ltb n 128)
    (λ f.
    let g : n ∷ r ≡ x ∷ rest = rw f at e in
    record { low = ltb-true n 128 f; rest_is = cc })
    (λ f. by_cases (ltb n 256)
    (λ g. let k = rw (f, g) at e in let z : x ≡ 0x81 = cc in absurd (omega arith))
    (λ g. let k = rw (f, g) at e in let z : x ≡ 0x82 = cc in absurd (omega arith)))

-- ---- names by their tags

tag_text : (w : ℕ) → (w ≡ 0xA0 → ⊥) → (m : GeneralName) → tag_of m ≡ w → tagged_text w m ≡ some (content_of m)
unfolding tag_of tagged_text content_of
tag_text w k (plain t c) e = rw (eq-eqb t w e)
tag_text w k (other o t c) e = absurd (k (sym e))

tag_no_text : (w : ℕ) (m : GeneralName) → (tag_of m ≡ w → ⊥) → tagged_text w m ≡ none
unfolding tag_of tagged_text
tag_no_text w (plain t c) n = rw (ne_eqb t w n)
tag_no_text w (other o t c) n = refl

tag_not_other : (m : GeneralName) → (tag_of m ≡ 0xA0 → ⊥) → srv_text m ≡ none
unfolding tag_of srv_text
tag_not_other (plain t c) n = refl
tag_not_other (other o t c) n = absurd (n refl)

-- A0 is no tag of another readable name
tag_other : {X : Type 0} (m : GeneralName) → T (good_name m) → tag_of m ≡ 0xA0 → ((o : List ℕ) (t : ℕ) (c : List ℕ) → m ≡ other o t c → X) → X
unfolding tag_of good_name
tag_other (plain t c) g e k = absurd (rw e at g)
tag_other (other o t c) g e k = k o t c refl

-- ---- a name that fills a part

-- it has a tag and a length
pub whole_room : (s : List ℕ) (at end : ℕ) → at ≤ end → end ≤ length s → is_some (whole_at s at end) ≡ true → at + 2 ≤ end
unfolding whole_at write_name
whole_room s at end h fits valid =
    some_of (whole_at s at end) valid λ m p.
    let e = ((alone_c name_c).sound (slice at end s) p).1 in
    omega (arith, sym (length-slice at end s fits) ∙ ap length e ∙ element_length (tag_of m) (content_of m), header_least (content_of m))

module _ (s : List ℕ) (at end : ℕ) (h : at + 2 ≤ end) (fits : end ≤ length s) where
  from : (i : ℕ) → i < end → slice i end s ≡ get_or s i 0 ∷ slice (suc i) end s
  from i k = slice-cons i end s 0 k fits

  module _ (m : GeneralName) (m_is : whole_at s at end ≡ some m) where
    sound : T (good_name m) × (slice at end s ≡ write_name m)
    unfolding whole_at write_name
    sound = (alone_c name_c).sound (slice at end s) m_is

    opened : get_or s at 0 ∷ slice (suc at) end s ≡ tag_of m ∷ (length_bytes (length (content_of m)) ++ content_of m)
    unfolding write_name element
    opened = sym (from at (omega arith)) ∙ sound.1

    tag_is : get_or s at 0 ≡ tag_of m
    tag_is = let e = opened in cc

    size : end - at ≡ header (content_of m) + length (content_of m)
    unfolding write_name
    size = sym (length-slice at end s fits) ∙ ap length sound.1 ∙ element_length (tag_of m) (content_of m)

    reads : read_element (slice at end s) ≡ got (raw (tag_of m) (content_of m)) []
    unfolding write_name
    reads = rw (sound.1 ∙ sym (append-nil _)) (element_complete (raw (tag_of m) (content_of m)) [])

    there : element_at s at end ≡ found (tag_of m) (end - length (content_of m)) end
    unfolding element_at place_element
    there = rw reads (λ i. found (tag_of m) (zero_less i - length (content_of m)) (zero_less i))
      where
        zero_less : end - 0 ≡ end
        zero_less = omega arith

    -- gone text, or this one
    pub text_none : (text : GeneralName → Option (List ℕ)) → text m ≡ none → None ≡ text_place text s at end
    unfolding text_place place_text
    text_none text e = rw (m_is, e)

    pub text_some : (text : GeneralName → Option (List ℕ)) (c : List ℕ) → text m ≡ some c → Some (end - length c) ≡ text_place text s at end
    unfolding text_place place_text
    text_some text c e = rw (m_is, e)

    -- ---- an otherName

    module _ (o : List ℕ) (t : ℕ) (c : List ℕ) (m_other : m ≡ other o t c) where
      abbrev inner : List ℕ
      inner = element 0xA0 (element t c)

      content_is : content_of m ≡ element 0x06 o ++ inner
      unfolding content_of
      content_is = rw m_other

      content_size : length (content_of m) ≡ (header o + length o) + (header (element t c) + (header c + length c))
      content_size = ap length content_is ∙ simp (length-append, element_length)

      not_srv : same o srv_oid ≡ false → srv_text m ≡ none
      unfolding srv_text
      not_srv e = rw (m_other, e)

      is_srv : same o srv_oid ≡ true → srv_text m ≡ some c
      unfolding srv_text
      is_srv e = rw (m_other, e)

      oid_size : same o srv_oid ≡ true → length o ≡ 8
      oid_size e = ap length (same_equal o srv_oid e)

      few : end - at < 16 → same o srv_oid ≡ false
      few k =
          by_cases (same o srv_oid)
          (λ e.
          absurd (omega (
            arith,
            size,
            content_size,
            oid_size e,
            header_least (content_of m),
            header_least o,
            header_least (element t c),
            header_least c,
          )))
          (λ e. e)

      -- ---- in short form

      module _ (long : 16 ≤ end - at) (x : ℕ) (x_is : x ≡ get_or s (at + 1) 0) (low : x < 128) where
        short : Short (length (content_of m)) x (content_of m) (slice (at + 2) end s)
        short =
            let e = opened in
            let f : slice (suc at) end s ≡ length_bytes (length (content_of m)) ++ content_of m = cc in
            let g : slice (suc at) end s ≡ x ∷ slice (at + 2) end s = rw (x_is, add-one, add-two) (from (suc at) (omega arith)) in
            short_length (length (content_of m)) x (content_of m) (slice (at + 2) end s) (sym f ∙ g) low

        oid_short : length o < 126
        oid_short = omega (arith, content_size, short.low, header_least o)

        laid : get_or s (at + 2) 0 ∷ get_or s (at + 3) 0 ∷ slice (at + 4) end s ≡ 0x06 ∷ length o ∷ (o ++ inner)
        laid =
            let a : slice (at + 2) end s ≡ get_or s (at + 2) 0 ∷ get_or s (at + 3) 0 ∷ slice (at + 4) end s =
            from (at + 2) (omega arith) ∙ ap {B = List ℕ} (get_or s (at + 2) 0 ∷◌) (simp (add-two, add-three, add-four) (from (suc (suc (suc at))) (omega arith))) in
            sym a ∙ short.rest_is ∙ content_is ∙ ap (λ l. l ++ inner) (element_short 0x06 o (omega (arith, oid_short)))

        oid_length : get_or s (at + 3) 0 ≡ length o
        oid_length = let e = laid in cc

        oid_other : (get_or s (at + 3) 0 ≡ 8 → ⊥) → same o srv_oid ≡ false
        oid_other n = sym (same_lengths o srv_oid (λ e. n (oid_length ∙ e)))

        oid_here : get_or s (at + 3) 0 ≡ 8 → slice (at + 4) (at + 12) s ≡ o
        oid_here e =
            let f = laid in
            let g : slice (at + 4) end s ≡ o ++ inner = cc in
            let k : at + 4 + 8 ≡ at + 12 = omega arith in
            sym (ap (λ n. slice (at + 4) n s) k) ∙ sym (part_of_part s 8 (at + 4) end (omega arith)) ∙ ap (take 8) g
            ∙ take_at o inner 8 (sym oid_length ∙ e)

        text_here : same o srv_oid ≡ true → at + 16 ≡ end - length c
        text_here e =
            let a = short.low in
            let size_inner : length (element t c) ≡ header c + length c = element_length t c in
            omega (
              arith,
              size,
              content_size,
              oid_size e,
              header_short (content_of m) a,
              header_short o (omega (arith, oid_short)),
              header_short (element t c) (omega (arith, size_inner, content_size, header_least (element t c))),
              header_short c (omega (arith, content_size)),
            )

      -- ---- in any form

      other_read : read_other (content_of m) ≡ some (o, raw t c)
      unfolding good_name content_of
      other_read =
          let g : T (good_name (other o t c)) = rw m_other at sound.0 in
          let p = and_parts (good_oid o && good_value t c) _ g in
          ap read_other content_is ∙ other_c.complete (o, raw t c) p.0

      content_at_lem : slice (end - length (content_of m)) end s ≡ content_of m
      content_at_lem =
          let d = found_read s end fits at (omega arith) (record { tag = tag_of m; start = end - length (content_of m); next = end }) there in
          let e = sym d.reads ∙ reads in
          let f : raw (tag_of m) (slice (end - length (content_of m)) end s) ≡ raw (tag_of m) (content_of m) = cc in
          ap (λ y. y.content) f

      name_is : (start : ℕ) → start ≡ start_of (element_at s at end) → other_at s start end ≡ named (cond (same o srv_oid) 9 0) t (end - length c)
      unfolding other_at place_name start_of name_kind text_tag_of text_of
      name_is start start_is = rw (start_is, there, content_at_lem, other_read)

  -- what is known of the name is that there is one
  module _ (valid : is_some (whole_at s at end) ≡ true) where
    pub whole_found : found? (element_at s at end) ≡ true
    whole_found = some_of (whole_at s at end) valid λ m p. rw (there m p)

    pub start_within : (start : ℕ) → start ≡ start_of (element_at s at end) → start ≤ end
    unfolding start_of
    start_within start e = some_of (whole_at s at end) valid λ m p. omega (arith, e ∙ ap start_of (there m p))

    module _ (w : ℕ) where
      pub tag_other_text : (get_or s at 0 ≡ w → ⊥) → None ≡ text_place (tagged_text w) s at end
      tag_other_text n = some_of (whole_at s at end) valid λ m p. text_none m p (tagged_text w) (tag_no_text w m (λ e. n (tag_is m p ∙ e)))

      pub tag_here : (w ≡ 0xA0 → ⊥) → get_or s at 0 ≡ w → (r : ℕ) → r ≡ start_of (element_at s at end) → Some r ≡ text_place (tagged_text w) s at end
      unfolding start_of
      tag_here k e r r_is =
          some_of (whole_at s at end) valid λ m p.
          ap {B = std.Option ℕ} Some (r_is ∙ rw (there m p)) ∙ text_some m p (tagged_text w) (content_of m) (tag_text w k m (sym (tag_is m p) ∙ e))

    pub srv_not_other : (get_or s at 0 ≡ 0xA0 → ⊥) → None ≡ text_place srv_text s at end
    srv_not_other n = some_of (whole_at s at end) valid λ m p. text_none m p srv_text (tag_not_other m (λ e. n (tag_is m p ∙ e)))

    module _ (tag : get_or s at 0 ≡ 0xA0) where
      with_other : {X : Type 0} → ((m : GeneralName) (p : whole_at s at end ≡ some m) (o : List ℕ) (t : ℕ) (c : List ℕ) → m ≡ other o t c → X) → X
      with_other k =
          some_of (whole_at s at end) valid λ m p.
          tag_other m (sound m p).0 (sym (tag_is m p) ∙ tag) λ o t c q.
          k m p o t c q

      none_here : (same_oid : Bool) → same_oid ≡ false
          → (m : GeneralName) (p : whole_at s at end ≡ some m) (o : List ℕ) (t : ℕ) (c : List ℕ) → m ≡ other o t c → same_oid ≡ same o srv_oid
          → None ≡ text_place srv_text s at end
      none_here b e m p o t c q f = text_none m p srv_text (not_srv m p o t c q (sym f ∙ e))

      pub srv_few : end - at < 16 → None ≡ text_place srv_text s at end
      srv_few k = with_other λ m p o t c q. none_here (same o srv_oid) (few m p o t c q k) m p o t c q refl

      -- in short form
      module _ (long : 16 ≤ end - at) (x : ℕ) (x_is : x ≡ get_or s (at + 1) 0) (low : x < 128) where
        pub srv_other_length : (get_or s (at + 3) 0 ≡ 8 → ⊥) → None ≡ text_place srv_text s at end
        srv_other_length n =
            with_other λ m p o t c q. none_here (same o srv_oid) (oid_other m p o t c q long x x_is low n) m p o t c q refl

        module _ (eight : get_or s (at + 3) 0 ≡ 8) (r : Bool) (r_is : r ≡ same (take (at + 12 - (at + 4)) (drop (at + 4) s)) srv_oid) where
          oid_is : (m : GeneralName) (p : whole_at s at end ≡ some m) (o : List ℕ) (t : ℕ) (c : List ℕ) (q : m ≡ other o t c) → r ≡ same o srv_oid
          oid_is m p o t c q = r_is ∙ rw (part_is s (at + 4) (at + 12) (omega arith), oid_here m p o t c q long x x_is low eight)

          pub srv_other_oid : r ≡ false → None ≡ text_place srv_text s at end
          srv_other_oid e = with_other λ m p o t c q. none_here r e m p o t c q (oid_is m p o t c q)

          pub srv_here : r ≡ true → Some (at + 16) ≡ text_place srv_text s at end
          srv_here e =
              with_other λ m p o t c q.
              let f = sym (oid_is m p o t c q) ∙ e in
              ap {B = std.Option ℕ} Some (text_here m p o t c q long x x_is low f) ∙ text_some m p srv_text c (is_srv m p o t c q f)

      -- in any form
      module _ (start : ℕ) (start_is : start ≡ start_of (element_at s at end)) (n : Result Name Unreadable) (n_is : n ≡ other_at s start end) where
        found_so : (m : GeneralName) (p : whole_at s at end ≡ some m) (o : List ℕ) (t : ℕ) (c : List ℕ) → m ≡ other o t c
            → n ≡ named (cond (same o srv_oid) 9 0) t (end - length c)
        found_so m p o t c q = n_is ∙ name_is m p o t c q start start_is

        pub long_formed : {A : Type 0} {y z : A} (gone : Unreadable) → n ≡ Err gone → y ≡ z
        long_formed gone e =
            with_other λ m p o t c q.
            let f = found_so m p o t c q in
            let z : ◌≡◌ {A = ℕ} 0 1 = cc in absurd (omega arith)

        module _ (name : Name) (shape : n ≡ Ok name) where
          same_kind : {k u v : ℕ} → Ok name ≡ named k u v → name.kind ≡ k
          same_kind {k} {u} {v} e = let w : name ≡ record { kind = k; tag = u; text = v } = cc in ap (λ y. y.kind) w

          same_text_at : {k u v : ℕ} → Ok name ≡ named k u v → name.text ≡ v
          same_text_at {k} {u} {v} e = let w : name ≡ record { kind = k; tag = u; text = v } = cc in ap (λ y. y.text) w

          pub long_srv : name.kind ≡ 9 → Some name.text ≡ text_place srv_text s at end
          long_srv e = with_other λ m p o t c q. go m p o t c q (same o srv_oid) refl
            where
              go : (m : GeneralName) (p : whole_at s at end ≡ some m) (o : List ℕ) (t : ℕ) (c : List ℕ) (q : m ≡ other o t c) (b : Bool) → same o srv_oid ≡ b
                  → Some name.text ≡ text_place srv_text s at end
              go m p o t c q true f =
                  let g = sym shape ∙ found_so m p o t c q in
                  let w : name.text ≡ end - length c = same_text_at g in
                  ap {B = std.Option ℕ} Some w ∙ text_some m p srv_text c (is_srv m p o t c q f)
              go m p o t c q false f =
                  let g = rw f at (sym shape ∙ found_so m p o t c q) in
                  let w : name.kind ≡ 0 = same_kind g in
                  absurd (omega arith)

          pub long_other : (name.kind ≡ 9 → ⊥) → None ≡ text_place srv_text s at end
          long_other e = with_other λ m p o t c q. go m p o t c q (same o srv_oid) refl
            where
              go : (m : GeneralName) (p : whole_at s at end ≡ some m) (o : List ℕ) (t : ℕ) (c : List ℕ) (q : m ≡ other o t c) (b : Bool) → same o srv_oid ≡ b
                  → None ≡ text_place srv_text s at end
              go m p o t c q true f =
                  let g = rw f at (sym shape ∙ found_so m p o t c q) in
                  let w : name.kind ≡ 9 = same_kind g in
                  absurd (e w)
              go m p o t c q false f = none_here false refl m p o t c q (sym f)

  -- the form that is restricted
  module _ (form : NameForm) (r : std.Option ℕ) where
    pub form_srv : form ≡ Srv → r ≡ text_place srv_text s at end → r ≡ text_place (form_of form).text s at end
    form_srv e f = f ∙ rw e

    pub form_dns : form ≡ Dns → r ≡ text_place (tagged_text 0x82) s at end → r ≡ text_place (form_of form).text s at end
    form_dns e f = f ∙ rw e

-- its start as a number: where a text's place was found, or else past the end
pub as_number : (end : ℕ) (r o : std.Option ℕ) → r ≡ o → (x : ℕ) → x ≡ unwrap_or r (end + 1) → x ≡ text_start end o
unfolding text_start
as_number end r o r_is x x_is = x_is ∙ rw r_is (go o)
  where
    go : (o : std.Option ℕ) → unwrap_or o (end + 1) ≡ text_start end o
    go None = refl
    go (Some at) = refl
