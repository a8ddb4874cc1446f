-- What the counting loops return, by their own tests, and how each turn goes on.
use Prim.Native.Nat.{ℕ, suc, ◌+◌, ◌-◌, ◌^◌, ◌≤◌, ◌<◌}
use mathlib.Core.Path.{◌≡◌, refl, sym, ap, ◌∙◌}
use mathlib.Core.Bool.{Bool, true, false, cond, ◌&&◌}
use mathlib.Core.Option.{Option, none, some}
use mathlib.Core.List.{List, [], ◌∷◌}
use native.Mathlib.Omega.{arith}
use lib.ListN.{length, take, drop, length-append, length-map}
use lib.Dec.{eqb}
use lib.Seq.{slice, slice_empty, length-slice, take-length}
use borrow.Author.Tests.{eq-eqb, ne_eqb, eqb-true, eqb-false}
use Rattle.std.specs.Cmp.Lexicographic.{slice_cmp}
use Rattle.std.specs.Ordering.{nat_cmp, is_le}
use Rattle.std.specs.declared.cmp.Ordering.{Ordering}
use Rattle.std.proofs.lemmas.Bool.Decides.{nat_tests}
use Rattle.std.proofs.lemmas.Cmp.{same_from_slice_cmp}
use Rattle.rules.specs.Bytes.{some?, chain, up_to}
use Rattle.rules.specs.Der.{Member}
use Rattle.rules.specs.Subject.{Attribute, write_attribute}
use Rattle.reading.specs.Reader.{then, when, is_some, as_is, also, Raw, raw, write_raw, tagged, alone, items}
use Rattle.reading.specs.Strings.{read_name, read_san, flat, number_from, read_attribute, in_order, read_set, read_sets, read_subject, read_subtree}
use Rattle.reading.proofs.Runs.{items_end, items_open, items_some, items_size}
use Rattle.reading.specs.Answers.{some_of, then_some, when_some}
use Rattle.reading.proofs.Codecs.{attribute_c}
use Rattle.std.specs.Prelude.{Result, Ok, Err, IsErr}
use Rattle.der.specs.Places.{Answer, element_at, tagged_at, found?}
use Rattle.der.specs.Reads.{part_is, Read, found_read, fits_refused, whole_element, tagged_is, tagged_read, alone_none, alone_open, alone_found}
use Rattle.der.specs.declared.Element.{Element}
use Rattle.der.specs.declared.ElementError.{ElementError}
use Rattle.entries.specs.Entries.{attribute_at, good_name_at, good_subtree_at}
use Rattle.entries.specs.Texts.{AttributeAt, attribute_read, not_attribute}
use Rattle.entries.specs.declared.Name.{Name}
use Rattle.entries.specs.declared.Unreadable.{Unreadable}
use Rattle.entries.proofs.Others.{unread}
use Rattle.strings.specs.Counts.{Count, unreadable, filled, content_at, place_count, total, place_total, names_at, order_at, set_at, sets_at, side_at, tally, run_on, any_fits, nothing, names_on, set_on, sets_on, side_on}
use Rattle.strings.specs.Runs.{run_end, run_refused, run_none, run_unfit, run_next, tally_total, total_ones}

is_none : {A : Type 0} (o : Option A) → is_some o ≡ false → o ≡ none
is_none none e = refl
is_none (some a) e = let z : ◌≡◌ {A = ℕ} 0 1 = cc in absurd (omega arith)

-- ---- places of an element that is found

module _ (s : List ℕ) (at end : ℕ) (h : at ≤ end) (fits : end ≤ length s) (e : Answer) (e_is : e ≡ element_at s at end) (x : Element) (found : e ≡ Ok x) where
  pub did : Read s at end x.tag x.start x.next
  did = found_read s end fits at h x (sym e_is ∙ found)

  pub next_later : at ≤ x.next
  next_later = omega (arith, did.head, did.body)

  pub next_body : x.start ≤ x.next
  next_body = did.body

  pub next_within : x.next ≤ end
  next_within = did.rest

  pub next_fits : x.next ≤ length s
  next_fits = omega (arith, did.rest)

  pub next_less : end - x.next < end - at
  next_less = omega (arith, did.head, did.body, did.rest)

  pub next_count : (k : ℕ) → k ≤ at → k + 1 ≤ x.next
  next_count k u = omega (arith, did.head, did.body)

-- ---- a run of items of which each counts one

module _ {A : Type 0} (f : Raw → Option A) (s : List ℕ) where
  abbrev ones : ℕ → ℕ → ℕ → Count
  ones k at end = run_on (λ a. 1) any_fits nothing 0 k (items f (slice at end s))

  ones_start : (o : Option (List A)) → place_count o ≡ run_on (λ a. 1) any_fits nothing 0 0 o
  unfolding place_count run_on
  ones_start none = refl
  ones_start (some l) = sym (tally_total (λ a. 1) 0 0 l ∙ rw (total_ones l) (ap {B = Count} Ok (omega arith)))

  module _ (all : Count) (k at end : ℕ) (inv : all ≡ ones k at end) (h : at ≤ end) (fits : end ≤ length s) where
    ones_end : end ≤ at → Ok k ≡ all
    ones_end u = sym (inv ∙ run_end f (λ a. 1) any_fits nothing s end fits 0 k at h u)

    ones_refused : at < end → found? (element_at s at end) ≡ false → unreadable ≡ all
    ones_refused u q = sym (inv ∙ run_refused f (λ a. 1) any_fits nothing s end fits 0 k at u q)

    module _ (t b n : ℕ) (did : Read s at end t b n) where
      ones_bad : is_some (f (raw t (slice b n s))) ≡ false → unreadable ≡ all
      ones_bad q = sym (inv ∙ run_none f (λ a. 1) any_fits nothing s end fits 0 k at t b n did (is_none (f (raw t (slice b n s))) q))

      ones_next : is_some (f (raw t (slice b n s))) ≡ true → all ≡ ones (k + 1) n end
      ones_next q = some_of (f (raw t (slice b n s))) q λ a w. inv ∙ run_next f (λ a. 1) any_fits nothing s end fits 0 k at t b n did a w refl

-- ---- GeneralNames

pub names_start_lem : (s : List ℕ) (from end : ℕ) → names_at s from end ≡ names_on s 0 from end
unfolding names_at names_on
names_start_lem s from end = ones_start read_name s (items read_name (slice from end s))

module _ (s : List ℕ) (all : Count) (k at end : ℕ) (inv : all ≡ names_on s k at end) (h : at ≤ end) (fits : end ≤ length s) where
  pub names_end : end ≤ at → Ok k ≡ all
  unfolding names_on
  names_end u = ones_end read_name s all k at end inv h fits u

  module _ (u : at < end) (e : Answer) (e_is : e ≡ element_at s at end) where
    pub names_refused : (why : ElementError) → e ≡ Err why → (r : Count) → IsErr r → r ≡ all
    unfolding names_on
    names_refused why q r err = unread r err ∙ ones_refused read_name s all k at end inv h fits u (rw (← e_is, q))

    module _ (x : Element) (found : e ≡ Ok x) (ok : Bool) (ok_is : ok ≡ good_name_at s x.tag x.start x.next) where
      pub names_bad : ok ≡ false → unreadable ≡ all
      unfolding names_on good_name_at
      names_bad q = ones_bad read_name s all k at end inv h fits x.tag x.start x.next (did s at end h fits e e_is x found) (sym ok_is ∙ q)

      pub names_next : ok ≡ true → all ≡ names_on s (k + 1) x.next end
      unfolding names_on good_name_at
      names_next q = ones_next read_name s all k at end inv h fits x.tag x.start x.next (did s at end h fits e e_is x found) (sym ok_is ∙ q)

-- ---- attributes of a set

-- in order, behind these bytes; behind no bytes at the first
abbrev behind : List ℕ → List Attribute → Bool
behind p [] = true
behind p (a ∷ l) = up_to p (write_attribute a) && behind (write_attribute a) l

abbrev ascending : List Attribute → Bool
ascending = chain (λ a b. up_to (write_attribute a) (write_attribute b))

behind_one : (a : Attribute) (l : List Attribute) → behind (write_attribute a) l ≡ ascending (a ∷ l)
behind_one a [] = refl
behind_one a (b ∷ l) = ap (up_to (write_attribute a) (write_attribute b) &&◌) (behind_one b l)

behind_none : (l : List Attribute) → behind [] l ≡ ascending l
unfolding up_to
behind_none [] = refl
behind_none (a ∷ l) = behind_one a l

tally_behind : (p : List ℕ) (k : ℕ) (l : List Attribute)
    → tally (λ a. 1) (λ p a. up_to p (write_attribute a)) write_attribute p k l ≡ cond (behind p l) (Ok (k + length l)) unreadable
unfolding tally
tally_behind p k [] = ap {B = Count} Ok (omega arith)
tally_behind p k (a ∷ l) = go (up_to p (write_attribute a)) (tally_behind (write_attribute a) (k + 1) l)
  where
    n : k + 1 + length l ≡ k + suc (length l)
    n = omega arith

    go : (t : Bool) → tally (λ a. 1) (λ p a. up_to p (write_attribute a)) write_attribute (write_attribute a) (k + 1) l ≡ cond (behind (write_attribute a) l) (Ok (k + 1 + length l)) unreadable
        → cond t (tally (λ a. 1) (λ p a. up_to p (write_attribute a)) write_attribute (write_attribute a) (k + 1) l) unreadable
        ≡ cond (t && behind (write_attribute a) l) (Ok (k + suc (length l))) unreadable
    go true ih = rw (ih, n)
    go false ih = refl

pub set_empty : (s : List ℕ) (from end : ℕ) → from ≡ end → unreadable ≡ set_at s from end
unfolding set_at place_count
set_empty s from end e = rw (e, slice_empty end s, items_end read_attribute)

abbrev fits_order : List ℕ → Attribute → Bool
fits_order p a = up_to p (write_attribute a)

count_when : {A : Type 0} (t : Bool) (l : List A) → place_count (when t (some l)) ≡ cond t (Ok (length l)) unreadable
unfolding place_count
count_when true l = refl
count_when false l = refl

set_begin : (o : Option (List Attribute)) → then o (as_is some?) ≡ o → place_count (then o (as_is in_order)) ≡ run_on (λ a. 1) fits_order write_attribute [] 0 o
unfolding run_on place_count
set_begin none e = refl
set_begin (some []) e = let z : ◌≡◌ {A = ℕ} 0 1 = cc in absurd (omega arith)
set_begin (some (a ∷ l)) e =
    let n : 0 + length (a ∷ l) ≡ length (a ∷ l) = omega arith in
    count_when (ascending (a ∷ l)) (a ∷ l) ∙ sym (tally_behind [] 0 (a ∷ l) ∙ rw (behind_none (a ∷ l), n))

pub set_start : (s : List ℕ) (from end : ℕ) → from ≤ end → end ≤ length s → (from ≡ end → ⊥) → set_at s from end ≡ set_on s from 0 from end
unfolding set_at set_on
set_start s from end h fits ne =
    rw (slice_empty from s)
    (set_begin (items read_attribute (slice from end s)) (items_some read_attribute (slice from end s) (omega (arith, length-slice from end s fits))))

module _ (s : List ℕ) (all : Count) (last k at end : ℕ) (inv : all ≡ set_on s last k at end) (h : at ≤ end) (fits : end ≤ length s) where
  pub set_end : end ≤ at → Ok k ≡ all
  unfolding set_on
  set_end u = sym (inv ∙ run_end read_attribute (λ a. 1) fits_order write_attribute s end fits (slice last at s) k at h u)

  module _ (u : at < end) (e : Answer) (e_is : e ≡ element_at s at end) where
    pub set_refused : (why : ElementError) → e ≡ Err why → (r : Count) → IsErr r → r ≡ all
    unfolding set_on
    set_refused why q r err = unread r err ∙ sym (inv ∙ run_refused read_attribute (λ a. 1) fits_order write_attribute s end fits (slice last at s) k at u (rw (← e_is, q)))

    module _ (x : Element) (found : e ≡ Ok x) (a : Result Name Unreadable) (a_is : a ≡ attribute_at s x.tag x.start x.next) where
      read : Read s at end x.tag x.start x.next
      read = did s at end h fits e e_is x found

      pub set_malformed : (why : Unreadable) → a ≡ Err why → (r : Count) → IsErr r → r ≡ all
      unfolding set_on
      set_malformed why q r err =
          let w = not_attribute s x.start x.next read.body (omega (arith, read.rest)) x.tag (sym a_is ∙ q) in
          unread r err ∙ sym (inv ∙ run_none read_attribute (λ a. 1) fits_order write_attribute s end fits (slice last at s) k at x.tag x.start x.next read w)

      module _ (m : Name) (named : a ≡ Ok m) (ok : Bool) (ok_is : ok ≡ order_at s last at at x.next) where
        here : AttributeAt s x.start x.next read.body (omega (arith, read.rest)) x.tag m.kind m.tag m.text
        here = attribute_read s x.start x.next read.body (omega (arith, read.rest)) x.tag m (sym a_is ∙ named)

        -- the attribute's bytes are those that it was read from
        bytes_are : write_attribute here.attribute ≡ slice at x.next s
        unfolding write_attribute
        bytes_are = sym (whole_element s at end x.tag x.start x.next fits read ∙ ap write_raw (attribute_c.sound (raw x.tag (slice x.start x.next s)) here.reads).1)

        fits_is : fits_order (slice last at s) here.attribute ≡ ok
        unfolding order_at
        fits_is = rw bytes_are (sym ok_is)

        pub set_unordered : ok ≡ false → unreadable ≡ all
        unfolding set_on
        set_unordered q =
            sym (inv ∙ run_unfit read_attribute (λ a. 1) fits_order write_attribute s end fits (slice last at s) k at x.tag x.start x.next read here.attribute here.reads (fits_is ∙ q))

        pub set_next : ok ≡ true → all ≡ set_on s at (k + 1) x.next end
        unfolding set_on
        set_next q =
            inv ∙ run_next read_attribute (λ a. 1) fits_order write_attribute s end fits (slice last at s) k at x.tag x.start x.next read here.attribute here.reads (fits_is ∙ q) ∙ rw bytes_are

-- ---- sets

pub count_none : {A : Type 0} (o : Option (List A)) (why : Unreadable) → place_count o ≡ Err why → o ≡ none
unfolding place_count
count_none none why e = refl
count_none (some l) why e = let z : ◌≡◌ {A = ℕ} 0 1 = cc in absurd (omega arith)

pub count_some : {A X : Type 0} (o : Option (List A)) (m : ℕ) → place_count o ≡ Ok m → ((l : List A) → o ≡ some l → length l ≡ m → X) → X
unfolding place_count
count_some none m e k = let z : ◌≡◌ {A = ℕ} 0 1 = cc in absurd (omega arith)
count_some (some l) m e k = k l refl (cc)

-- a set has no more attributes than bytes
pub set_size : (s : List ℕ) (b n : ℕ) → n ≤ length s → (c : Count) → c ≡ set_at s b n → (m : ℕ) → c ≡ Ok m → m ≤ n - b
unfolding set_at
set_size s b n fits c c_is m e =
    count_some (also in_order (items read_attribute) (slice b n s)) m (sym c_is ∙ e) λ l p q.
    then_some (items read_attribute (slice b n s)) _ p λ l' u v.
    when_some (in_order l') _ v λ t w.
    let x : l ≡ l' = cc in
    omega (arith, items_size read_attribute (slice b n s) u, length-slice b n s fits, ap length x)

-- a run that wants a tag reads nothing where another stands
items_tagged : {A : Type 0} (g : List ℕ → Option A) (s : List ℕ) (at end w : ℕ) → at ≤ end → at < end → end ≤ length s
    → found? (tagged_at s at end w) ≡ false → items (tagged w g) (slice at end s) ≡ none
unfolding tagged_at
items_tagged g s at end w h u fits q =
    items_open (tagged w g) (slice at end s) (omega (arith, length-slice at end s fits))
    ∙ fits_refused s end fits at h (λ t. eqb t w) (λ x r. then (tagged w g x) (λ a. then (items (tagged w g) r) (λ l. some (a ∷ l)))) (λ x r d. rw d) q

place_total_start : {A : Type 0} (size : A → ℕ) (o : Option (List A)) → place_total size o ≡ run_on size any_fits nothing 0 0 o
unfolding place_total run_on
place_total_start size none = refl
place_total_start size (some l) = sym (tally_total size 0 0 l ∙ ap {B = Count} Ok (omega arith))

pub sets_start : (s : List ℕ) (from end : ℕ) → sets_at s from end ≡ sets_on s 0 from end
unfolding sets_at sets_on
sets_start s from end = place_total_start length (items read_set (slice from end s))

module _ (s : List ℕ) (all : Count) (k at end : ℕ) (inv : all ≡ sets_on s k at end) (h : at ≤ end) (fits : end ≤ length s) where
  pub sets_end : end ≤ at → Ok k ≡ all
  unfolding sets_on
  sets_end u = sym (inv ∙ run_end read_set length any_fits nothing s end fits 0 k at h u)

  module _ (u : at < end) (e : Answer) (e_is : e ≡ tagged_at s at end 0x31) where
    pub sets_refused : (why : ElementError) → e ≡ Err why → (r : Count) → IsErr r → r ≡ all
    unfolding sets_on run_on read_set
    sets_refused why q r err = unread r err ∙ sym (inv ∙ rw (items_tagged (also in_order (items read_attribute)) s at end 0x31 h u fits (rw (← e_is, q))))

    module _ (x : Element) (found : e ≡ Ok x) where
      set_read : Read s at end x.tag x.start x.next
      set_read = tagged_read s end fits at h 0x31 (also in_order (items read_attribute)) e e_is x found

      pub set_body : x.start ≤ x.next
      set_body = set_read.body

      pub set_within : x.next ≤ end
      set_within = set_read.rest

      pub set_fits : x.next ≤ length s
      set_fits = omega (arith, set_read.rest)

      pub set_less : end - x.next < end - at
      set_less = omega (arith, set_read.head, set_read.body, set_read.rest)

      module _ (c : Count) (c_is : c ≡ set_at s x.start x.next) where
        content : read_set (raw x.tag (slice x.start x.next s)) ≡ also in_order (items read_attribute) (slice x.start x.next s)
        unfolding read_set
        content = rw (eq-eqb x.tag 0x31 (tagged_is s end fits at h 0x31 (also in_order (items read_attribute)) e e_is x found))

        pub sets_bad : (why : Unreadable) → c ≡ Err why → (r : Count) → IsErr r → r ≡ all
        unfolding sets_on set_at
        sets_bad why q r err =
            unread r err ∙ sym (inv ∙ run_none read_set length any_fits nothing s end fits 0 k at x.tag x.start x.next set_read (content ∙ count_none (also in_order (items read_attribute) (slice x.start x.next s)) why (sym c_is ∙ q)))

        module _ (m : ℕ) (of : c ≡ Ok m) where
          pub sets_count : k ≤ at → k + m ≤ x.next
          sets_count w = omega (arith, set_size s x.start x.next set_fits c c_is m of, set_read.head, set_read.body)

          pub sets_sum : k ≤ at → length s < 2 ^ 64 → k + m < 2 ^ 64
          sets_sum w z = omega (arith, sets_count w, set_fits)

          pub sets_next : all ≡ sets_on s (k + m) x.next end
          unfolding sets_on set_at
          sets_next =
              count_some (also in_order (items read_attribute) (slice x.start x.next s)) m (sym c_is ∙ of) λ l p q.
              inv ∙ run_next read_set length any_fits nothing s end fits 0 k at x.tag x.start x.next set_read l (content ∙ p) refl ∙ rw q

-- the names of numbered sets
flat_length : (i : ℕ) (l : List (List Attribute)) → length (flat (number_from i l)) ≡ total length l
unfolding flat number_from total
flat_length i [] = refl
flat_length i (m ∷ l) = simp (length-append, flat_length (suc i) l) (rw (length-map {B = Member Attribute} m (λ a. record { group = i; value = a })))

numbered_count : (i : ℕ) (o : Option (List (List Attribute))) → place_total length o ≡ place_count (then o (λ sets. some (flat (number_from i sets))))
unfolding place_total place_count
numbered_count i none = refl
numbered_count i (some l) = ap {B = Count} Ok (sym (flat_length i l))

-- ---- the outermost element

pub whole : (s : List ℕ) → slice 0 (length s) s ≡ s
whole s = take-length s

module _ (s : List ℕ) (e : Answer) (e_is : e ≡ tagged_at s 0 (length s) 0x30) where
  pub content_refused : (why : ElementError) → e ≡ Err why → (r : Count) → IsErr r → r ≡ content_at s
  unfolding content_at filled
  content_refused why q r err = unread r err ∙ rw (← e_is, q)

  module _ (x : Element) (found : e ≡ Ok x) where
    pub outer_start : x.start ≤ length s
    outer_start =
        let d = tagged_read s (length s) (omega arith) 0 (omega arith) 0x30 (as_is some?) e e_is x found in
        omega (arith, d.body, d.rest)

    pub content_open : (x.next ≡ length s → ⊥) → unreadable ≡ content_at s
    unfolding content_at filled
    content_open q = rw (← e_is, found, ne_eqb x.next (length s) q)

    pub content_is : x.next ≡ length s → Ok x.start ≡ content_at s
    unfolding content_at filled
    content_is q = rw (← e_is, found, eq-eqb x.next (length s) q)

-- a string that no one element fills is not read; one that is filled is read as its content is
module _ (s : List ℕ) (c : Count) (c_is : c ≡ content_at s) where
  pub outer_none : {A : Type 0} (f : List ℕ → Option A) (why : Unreadable) → c ≡ Err why → alone (tagged 0x30 f) s ≡ none
  unfolding content_at filled
  outer_none f why q = go (tagged_at s 0 (length s) 0x30) refl
    where
      go : (o : Answer) → tagged_at s 0 (length s) 0x30 ≡ o → alone (tagged 0x30 f) s ≡ none
      go (Err w) p = rw (whole s) at (alone_none s (length s) (omega arith) 0 (omega arith) 0x30 f _ refl (rw p))
      go (Ok x) p = tell (eqb x.next (length s)) refl
        where
          tell : (b : Bool) → eqb x.next (length s) ≡ b → alone (tagged 0x30 f) s ≡ none
          tell true g =
              let k : ◌≡◌ {A = Count} (Ok x.start) (Err why) = rw (p, g) at (sym c_is ∙ q) in
              let z : ◌≡◌ {A = ℕ} 0 1 = cc in absurd (omega arith)
          tell false g = rw (whole s) at (alone_open s (length s) (omega arith) 0 (omega arith) 0x30 f _ refl x p (eqb-false x.next (length s) g))

  module _ (start : ℕ) (found : c ≡ Ok start) where
    with_content : {X : Type 0} → ((x : Element) → tagged_at s 0 (length s) 0x30 ≡ Ok x → x.next ≡ length s → x.start ≡ start → X) → X
    unfolding content_at filled
    with_content {X} k = go (tagged_at s 0 (length s) 0x30) refl
      where
        go : (o : Answer) → tagged_at s 0 (length s) 0x30 ≡ o → X
        go (Err w) p =
            let k : ◌≡◌ {A = Count} unreadable (Ok start) = rw p at (sym c_is ∙ found) in
            let z : ◌≡◌ {A = ℕ} 0 1 = cc in absurd (omega arith)
        go (Ok x) p = tell (eqb x.next (length s)) refl
          where
            tell : (b : Bool) → eqb x.next (length s) ≡ b → X
            tell true g =
                let j : ◌≡◌ {A = Count} (Ok x.start) (Ok start) = rw (p, g) at (sym c_is ∙ found) in
                let m : x.start ≡ start = cc in
                k x p (eqb-true x.next (length s) g) m
            tell false g =
                let j : ◌≡◌ {A = Count} unreadable (Ok start) = rw (p, g) at (sym c_is ∙ found) in
                let z : ◌≡◌ {A = ℕ} 0 1 = cc in absurd (omega arith)

    pub content_start : start ≤ length s
    content_start = with_content λ x p q m. omega (arith, outer_start s _ refl x p, m)

    pub outer_found : {A : Type 0} (f : List ℕ → Option A) → alone (tagged 0x30 f) s ≡ f (slice start (length s) s)
    outer_found f = with_content λ x p q m.
        ap (alone (tagged 0x30 f)) (sym (whole s)) ∙ alone_found s (length s) (omega arith) 0 (omega arith) 0x30 f _ refl x p q ∙ rw m

  pub san_none : (why : Unreadable) → c ≡ Err why → (r : Count) → IsErr r → r ≡ place_count (read_san s)
  unfolding read_san place_count
  san_none why q r err = unread r err ∙ rw (outer_none (also some? (items read_name)) why q)

  pub subject_none : (why : Unreadable) → c ≡ Err why → (r : Count) → IsErr r → r ≡ place_count (read_subject s)
  unfolding read_subject read_sets place_count
  subject_none why q r err = unread r err ∙ rw (outer_none (items read_set) why q)

  module _ (b : ℕ) (found : c ≡ Ok b) where
    pub san_empty : b ≡ length s → unreadable ≡ place_count (read_san s)
    unfolding read_san place_count
    san_empty w = rw (outer_found b found (also some? (items read_name)), w, slice_empty (length s) s, items_end read_name)

    pub san_names_lem : (b ≡ length s → ⊥) → (r : Count) → r ≡ names_at s b (length s) → r ≡ place_count (read_san s)
    unfolding read_san names_at
    san_names_lem w r r_is =
        let k : 1 ≤ length (slice b (length s) s) = omega (arith, content_start b found, length-slice b (length s) s (omega arith)) in
        r_is ∙ rw (outer_found b found (also some? (items read_name)), items_some read_name (slice b (length s) s) k)

    pub subject_sets : (r : Count) → r ≡ sets_at s b (length s) → r ≡ place_count (read_subject s)
    unfolding read_subject read_sets sets_at
    subject_sets r r_is = r_is ∙ rw (outer_found b found (items read_set)) (numbered_count 0 (items read_set (slice b (length s) s)))

-- ---- subtrees

pub side_start : (s : List ℕ) (from end : ℕ) → side_at s from end ≡ side_on s 0 from end
unfolding side_at side_on
side_start s from end = ones_start read_subtree s (items read_subtree (slice from end s))

module _ (s : List ℕ) (all : Count) (k at end : ℕ) (inv : all ≡ side_on s k at end) (h : at ≤ end) (fits : end ≤ length s) where
  pub side_end : end ≤ at → Ok k ≡ all
  unfolding side_on
  side_end u = ones_end read_subtree s all k at end inv h fits u

  module _ (u : at < end) (e : Answer) (e_is : e ≡ element_at s at end) where
    pub side_refused : (why : ElementError) → e ≡ Err why → (r : Count) → IsErr r → r ≡ all
    unfolding side_on
    side_refused why q r err = unread r err ∙ ones_refused read_subtree s all k at end inv h fits u (rw (← e_is, q))

    module _ (x : Element) (found : e ≡ Ok x) (ok : Bool) (ok_is : ok ≡ good_subtree_at s x.tag x.start x.next) where
      pub side_bad : ok ≡ false → unreadable ≡ all
      unfolding side_on good_subtree_at
      side_bad q = ones_bad read_subtree s all k at end inv h fits x.tag x.start x.next (did s at end h fits e e_is x found) (sym ok_is ∙ q)

      pub side_next : ok ≡ true → all ≡ side_on s (k + 1) x.next end
      unfolding side_on good_subtree_at
      side_next q = ones_next read_subtree s all k at end inv h fits x.tag x.start x.next (did s at end h fits e e_is x found) (sym ok_is ∙ q)

-- ---- byte order

pub order_is : (s : List ℕ) (last at next : ℕ) → last ≤ at → at ≤ next → (o : Ordering)
    → o ≡ slice_cmp nat_cmp (take (at - last) (drop last s)) (take (next - at) (drop at s)) → is_le o ≡ order_at s last at at next
unfolding order_at up_to
order_is s last at next h k o o_is =
    let by = same_from_slice_cmp nat_cmp is_le up_to refl (λ _ _. refl) (λ _ _. refl) (λ x y xs ys o h. grind (arith, nat_tests)) in
    by (take (at - last) (drop last s)) (take (next - at) (drop at s)) o o_is ∙ rw (part_is s last at h, part_is s at next k)
