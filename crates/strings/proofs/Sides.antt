-- What the counting of constraints returns, by its own tests.
use Prim.Native.Nat.{ℕ, ◌+◌, ◌-◌, ◌^◌, ◌≤◌, ◌<◌}
use mathlib.Core.Path.{◌≡◌, refl, sym, ap, ◌∙◌}
use mathlib.Core.Bool.{Bool, true, false, cond, ◌&&◌}
use mathlib.Core.Option.{Option, none, some}
use mathlib.Core.List.{List, [], ◌∷◌}
use native.Mathlib.Omega.{arith}
use lib.ListN.{length, length-append, length-map}
use lib.Dec.{ltb, leb, ltb→lt}
use lib.Seq.{slice, slice_empty, length-slice}
use borrow.Author.Tests.{lt-ltb, le-leb, lt-leb, ltb-true, ltb-false}
use Rattle.rules.specs.Bytes.{some?, all, chain}
use Rattle.rules.specs.Der.{Member, Group}
use Rattle.rules.specs.San.{GeneralName}
use Rattle.rules.specs.Constraints.{good_subtree}
use Rattle.reading.specs.Reader.{then, when, as_is, also, raw, items}
use Rattle.reading.specs.Strings.{flat, read_subtree, read_side, rising, read_sides, read_constraints}
use Rattle.reading.specs.Answers.{and_parts}
use Rattle.reading.proofs.Runs.{items_end, items_some, items_size}
use Rattle.reading.proofs.Codecs.{side_c}
use Rattle.std.specs.Prelude.{Ok, Err, IsErr}
use Rattle.der.specs.Places.{Answer, element_at}
use Rattle.der.specs.Reads.{Read}
use Rattle.der.specs.declared.Element.{Element}
use Rattle.der.specs.declared.ElementError.{ElementError}
use Rattle.entries.specs.declared.Unreadable.{Unreadable}
use Rattle.entries.proofs.Others.{unread}
use Rattle.strings.specs.Counts.{Count, unreadable, content_at, place_count, total, place_total, members_of, side_at, sides_at, tally, run_on, sides_on}
use Rattle.strings.specs.Runs.{run_end, run_refused, run_none, run_unfit, run_next}
use Rattle.strings.proofs.Counting.{did, count_none, count_some, outer_none, outer_found}

abbrev Side : Type 0
Side = Group GeneralName

abbrev fits_side : ℕ → Side → Bool
fits_side low g = leb low (0xA0 + g.number)

abbrev after_side : Side → ℕ
after_side g = 0xA0 + g.number + 1

-- ---- the order of sides

abbrev above : ℕ → List Side → Bool
above low [] = true
above low (g ∷ gs) = fits_side low g && above (after_side g) gs

tests_agree : (a b : ℕ) → leb (0xA0 + a + 1) (0xA0 + b) ≡ ltb a b
tests_agree a b = go (ltb a b) refl
  where
    go : (t : Bool) → ltb a b ≡ t → leb (0xA0 + a + 1) (0xA0 + b) ≡ t
    go true e = le-leb (0xA0 + a + 1) (0xA0 + b) (omega (arith, ltb-true a b e))
    go false e = lt-leb (0xA0 + a + 1) (0xA0 + b) (omega (arith, ltb-false a b e))

above_one : (g : Side) (gs : List Side) → above (after_side g) gs ≡ chain rising (g ∷ gs)
above_one g [] = refl
above_one g (h ∷ gs) = rw (tests_agree g.number h.number, above_one h gs)

above_none : (gs : List Side) → above 0xA0 gs ≡ chain rising gs
above_none [] = refl
above_none (g ∷ gs) = rw (le-leb 0xA0 (0xA0 + g.number) (omega arith)) (above_one g gs)

tally_above : (low k : ℕ) (l : List Side) → tally members_of fits_side after_side low k l ≡ cond (above low l) (Ok (k + total members_of l)) unreadable
unfolding tally total
tally_above low k [] = ap {B = Count} Ok (omega arith)
tally_above low k (g ∷ l) = go (fits_side low g) (tally_above (after_side g) (k + members_of g) l)
  where
    n : k + members_of g + total members_of l ≡ k + (members_of g + total members_of l)
    n = omega arith

    go : (t : Bool) → tally members_of fits_side after_side (after_side g) (k + members_of g) l ≡ cond (above (after_side g) l) (Ok (k + members_of g + total members_of l)) unreadable
        → cond t (tally members_of fits_side after_side (after_side g) (k + members_of g) l) unreadable
        ≡ cond (t && above (after_side g) l) (Ok (k + (members_of g + total members_of l))) unreadable
    go true ih = rw (ih, n)
    go false ih = refl

total_when : (t : Bool) (l : List Side) → place_total members_of (when t (some l)) ≡ cond t (Ok (total members_of l)) unreadable
unfolding place_total
total_when true l = refl
total_when false l = refl

sides_begin : (o : Option (List Side)) → then o (as_is some?) ≡ o
    → place_total members_of (then o (as_is (λ l. some? l && chain rising l))) ≡ run_on members_of fits_side after_side 0xA0 0 o
unfolding run_on place_total
sides_begin none e = refl
sides_begin (some []) e = let z : ◌≡◌ {A = ℕ} 0 1 = cc in absurd (omega arith)
sides_begin (some (g ∷ l)) e =
    let n : 0 + total members_of (g ∷ l) ≡ total members_of (g ∷ l) = omega arith in
    total_when (chain rising (g ∷ l)) (g ∷ l) ∙ sym (tally_above 0xA0 0 (g ∷ l) ∙ rw (above_none (g ∷ l), n))

pub sides_empty : (s : List ℕ) (from end : ℕ) → from ≡ end → unreadable ≡ sides_at s from end
unfolding sides_at place_total
sides_empty s from end e = rw (e, slice_empty end s, items_end read_side)

pub sides_start : (s : List ℕ) (from end : ℕ) → from ≤ end → end ≤ length s → (from ≡ end → ⊥) → sides_at s from end ≡ sides_on s 0xA0 0 from end
unfolding sides_at sides_on
sides_start s from end h fits ne =
    sides_begin (items read_side (slice from end s)) (items_some read_side (slice from end s) (omega (arith, length-slice from end s fits)))

-- ---- one side

side_number : (t : ℕ) (c : List ℕ) (g : Side) → read_side (raw t c) ≡ some g → (t ≡ 0xA0 + g.number) × (g.number < 2)
side_number t c g e =
    let z = side_c.sound (raw t c) e in
    let p = and_parts (all good_subtree g.members) _ z.0 in
    (ap (λ x. x.tag) z.1, ltb→lt g.number 2 (and_parts (some? g.members) _ p.1).1)

-- the side of a tag A0 or A1 whose subtrees are read
side_reads : (t : ℕ) (c : List ℕ) (l : List GeneralName) → 0xA0 ≤ t → t ≤ 0xA1 → 1 ≤ length c → items read_subtree c ≡ some l → read_side (raw t c) ≡ some (record { number = t - 0xA0; members = l })
unfolding read_side
side_reads t c l h k n e =
    let w : then (items read_subtree c) (as_is some?) ≡ items read_subtree c = items_some read_subtree c n in
    rw (le-leb 0xA0 t h, e) (go l (rw e at w))
  where
    go : (l : List GeneralName) → then (some l) (as_is some?) ≡ some l
        → when {A = Side} (some? l && ltb (t - 0xA0) 2) (some (record { number = t - 0xA0; members = l })) ≡ some (record { number = t - 0xA0; members = l })
    go [] q = let z : ◌≡◌ {A = ℕ} 0 1 = cc in absurd (omega arith)
    go (a ∷ l) q = rw (lt-ltb (t - 0xA0) 2 (omega arith))

-- whether a tag may be read, and whether a side is
side_none : (t : ℕ) (c : List ℕ) → items read_subtree c ≡ none → read_side (raw t c) ≡ none
unfolding read_side
side_none t c e = rw e (go (leb 0xA0 t))
  where
    go : (b : Bool) → then (when b none) (as_is {A = Side} (λ g. some? g.members && ltb g.number 2)) ≡ none
    go true = refl
    go false = refl

side_no_bytes : (t : ℕ) → read_side (raw t []) ≡ none
unfolding read_side
side_no_bytes t = rw (items_end read_subtree) (go (leb 0xA0 t))
  where
    go : (b : Bool) → then (when b (some (record { number = t - 0xA0; members = [] }))) (as_is {A = Side} (λ g. some? g.members && ltb g.number 2)) ≡ none
    go true = refl
    go false = refl

module _ (s : List ℕ) (all : Count) (low k at end : ℕ) (inv : all ≡ sides_on s low k at end) (h : at ≤ end) (fits : end ≤ length s) where
  pub sides_end : end ≤ at → Ok k ≡ all
  unfolding sides_on
  sides_end u = sym (inv ∙ run_end read_side members_of fits_side after_side s end fits low k at h u)

  module _ (u : at < end) (e : Answer) (e_is : e ≡ element_at s at end) where
    pub sides_refused : (why : ElementError) → e ≡ Err why → (r : Count) → IsErr r → r ≡ all
    unfolding sides_on
    sides_refused why q r err = unread r err ∙ sym (inv ∙ run_refused read_side members_of fits_side after_side s end fits low k at u (rw (← e_is, q)))

    module _ (x : Element) (found : e ≡ Ok x) where
      read : Read s at end x.tag x.start x.next
      read = did s at end h fits e e_is x found

      no_side : read_side (raw x.tag (slice x.start x.next s)) ≡ none → unreadable ≡ all
      unfolding sides_on
      no_side q = sym (inv ∙ run_none read_side members_of fits_side after_side s end fits low k at x.tag x.start x.next read q)

      pub sides_low : x.tag < low → unreadable ≡ all
      unfolding sides_on
      sides_low v = go (read_side (raw x.tag (slice x.start x.next s))) refl
        where
          go : (o : Option Side) → read_side (raw x.tag (slice x.start x.next s)) ≡ o → unreadable ≡ all
          go none f = no_side f
          go (some g) f =
              let w = (side_number x.tag (slice x.start x.next s) g f).0 in
              sym (inv ∙ run_unfit read_side members_of fits_side after_side s end fits low k at x.tag x.start x.next read g f (lt-leb low (0xA0 + g.number) (omega arith)))

      pub sides_high : 0xA1 < x.tag → unreadable ≡ all
      sides_high v = go (read_side (raw x.tag (slice x.start x.next s))) refl
        where
          go : (o : Option Side) → read_side (raw x.tag (slice x.start x.next s)) ≡ o → unreadable ≡ all
          go none f = no_side f
          go (some g) f =
              let w = side_number x.tag (slice x.start x.next s) g f in
              absurd (omega arith)

      pub sides_none : x.start ≡ x.next → unreadable ≡ all
      sides_none v = no_side (rw (v, slice_empty x.next s) (side_no_bytes x.tag))

      module _ (c : Count) (c_is : c ≡ side_at s x.start x.next) where
        pub sides_bad : (why : Unreadable) → c ≡ Err why → (r : Count) → IsErr r → r ≡ all
        unfolding side_at
        sides_bad why q r err = unread r err ∙ no_side (side_none x.tag (slice x.start x.next s) (count_none (items read_subtree (slice x.start x.next s)) why (sym c_is ∙ q)))

        module _ (m : ℕ) (of : c ≡ Ok m) where
          side_size : m ≤ x.next - x.start
          unfolding side_at
          side_size =
              count_some (items read_subtree (slice x.start x.next s)) m (sym c_is ∙ of) λ l p q.
              omega (arith, items_size read_subtree (slice x.start x.next s) p, length-slice x.start x.next s (omega (arith, read.rest)))

          pub sides_count : k ≤ at → k + m ≤ x.next
          sides_count w = omega (arith, side_size, read.head, read.body)

          pub sides_sum : k ≤ at → length s < 2 ^ 64 → k + m < 2 ^ 64
          sides_sum w z = omega (arith, sides_count w, read.rest)

          pub sides_next : 0xA0 ≤ low → low ≤ x.tag → x.tag ≤ 0xA1 → (x.start ≡ x.next → ⊥) → all ≡ sides_on s (x.tag + 1) (k + m) x.next end
          unfolding sides_on side_at
          sides_next a v w ne =
              count_some (items read_subtree (slice x.start x.next s)) m (sym c_is ∙ of) λ l p q.
              let f = side_reads x.tag (slice x.start x.next s) l (omega arith) w (omega (arith, read.body, length-slice x.start x.next s (omega (arith, read.rest)))) p in
              let y : 0xA0 + (x.tag - 0xA0) ≡ x.tag = omega arith in
              inv ∙ run_next read_side members_of fits_side after_side s end fits low k at x.tag x.start x.next read (record { number = x.tag - 0xA0; members = l }) f (le-leb low (0xA0 + (x.tag - 0xA0)) (omega arith)) ∙ rw (q, y)

-- ---- the outermost element

flat_length : (l : List Side) → length (flat l) ≡ total members_of l
unfolding flat total
flat_length [] = refl
flat_length (g ∷ l) = simp (length-append, flat_length l) (rw (length-map {B = Member GeneralName} g.members (λ a. record { group = g.number; value = a })))

sides_total : (o : Option (List Side)) → place_total members_of o ≡ place_count (then o (λ gs. some (flat gs)))
unfolding place_total place_count
sides_total none = refl
sides_total (some l) = ap {B = Count} Ok (sym (flat_length l))

abbrev sides_in : List ℕ → Option (List Side)
sides_in = also (λ l. some? l && chain rising l) (items read_side)

module _ (s : List ℕ) (c : Count) (c_is : c ≡ content_at s) where
  pub constraints_none : (why : Unreadable) → c ≡ Err why → (r : Count) → IsErr r → r ≡ place_count (read_constraints s)
  unfolding read_constraints read_sides place_count
  constraints_none why q r err = unread r err ∙ rw (outer_none s c c_is sides_in why q)

  pub constraints_sides : (b : ℕ) → c ≡ Ok b → (r : Count) → r ≡ sides_at s b (length s) → r ≡ place_count (read_constraints s)
  unfolding read_constraints read_sides sides_at
  constraints_sides b found r r_is = r_is ∙ rw (outer_found s c c_is b found sides_in) (sides_total (sides_in (slice b (length s) s)))
