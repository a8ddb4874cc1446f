-- The two sides of the constraints, as parts of the string.
use Prim.Native.Nat.{ℕ, ◌+◌, ◌-◌, ◌≤◌, ◌<◌}
use mathlib.Core.Path.{◌≡◌, refl, sym, ap, ◌∙◌}
use mathlib.Core.Bool.{Bool, true, false, ◌&&◌}
use mathlib.Core.Option.{Option, none, some}
use mathlib.Core.List.{List, [], ◌∷◌, ◌++◌, append-nil}
use native.Mathlib.Omega.{arith}
use lib.ListN.{length}
use lib.Seq.{slice}
use lib.Dec.{T, ltb, leb, leb→le, ltb→lt}
use borrow.Author.Tests.{eq-eqb, ne_eqb, leb-true, leb-false}
use Rattle.rules.specs.Bytes.{some?, all, chain}
use Rattle.rules.specs.Der.{Member, Group}
use Rattle.rules.specs.San.{GeneralName}
use Rattle.rules.specs.Constraints.{permitted, excluded, good_subtree}
use Rattle.rules.specs.Matching.{with_some, Form, subtrees_of}
use Rattle.reading.specs.Reader.{numbered_by, raw, items}
use Rattle.reading.specs.Strings.{flat, read_subtree, read_side, rising, read_sides, read_constraints}
use Rattle.reading.specs.Answers.{then_some, when_some, and_parts, all_weaken}
use Rattle.reading.proofs.Codec.{items_c}
use Rattle.reading.specs.Codecs.{good_filled}
use Rattle.reading.proofs.Codecs.{side_c}
use Rattle.reading.specs.Groups.{members}
use Rattle.std.specs.Prelude.{Ok, Err}
use Rattle.der.specs.Places.{Answer, element_at, found?}
use Rattle.der.specs.Reads.{found_read}
use Rattle.der.specs.declared.Element.{Element}
use Rattle.der.specs.declared.ElementError.{ElementError}
use Rattle.der.specs.Runs.{Readable, items_in, run_is, no_items, no_run, First, no_element_lem, first, validated, names_of, valid_cases, content_start, start_found, nothing_read, content_read, filled}
use Rattle.constrained.specs.declared.Part.{Part}
use Rattle.constrained.specs.Subtrees.{texts_of, texts_in, small, SideRun, content_at, nowhere, part_of, Side, BothSides}

-- ---- the texts of a side, in a list of names

with_append : (o : Option (List ℕ)) (x y : List (List ℕ)) → with_some o (x ++ y) ≡ with_some o x ++ y
with_append none x y = refl
with_append (some c) x y = refl

module _ (form : Form) where
  -- the names of the side
  own_texts : (k : ℕ) (m : List GeneralName) (l : List (Member GeneralName)) → subtrees_of form k (members k m ++ l) ≡ texts_of form m ++ subtrees_of form k l
  unfolding subtrees_of texts_of
  own_texts k [] l = refl
  own_texts k (n ∷ m) l = rw (eq-eqb k k refl, own_texts k m l) (with_append (form.text n) (texts_of form m) (subtrees_of form k l))

  -- the names of another side
  other_texts : (k j : ℕ) (m : List GeneralName) (l : List (Member GeneralName)) → (j ≡ k → ⊥) → subtrees_of form k (members j m ++ l) ≡ subtrees_of form k l
  unfolding subtrees_of
  other_texts k j [] l h = refl
  other_texts k j (n ∷ m) l h = rw (ne_eqb j k h) (other_texts k j m l h)

  -- no names, no texts
  no_texts : (k : ℕ) → subtrees_of form k [] ≡ []
  unfolding subtrees_of
  no_texts k = refl

-- ---- the sides that a run holds

-- a side that is good has one of the two numbers
low_number : (g : Group GeneralName) → T (good_filled g) → T (small g)
low_number g d = (and_parts (some? g.members) (small g) (and_parts (all good_subtree g.members) _ d).1).1

-- nothing stands after the excluded side
last_side : (g : Group GeneralName) (gs : List (Group GeneralName)) → T (all small (g ∷ gs)) → T (chain rising (g ∷ gs)) → 0 < g.number → gs ≡ []
last_side g [] a c h = refl
last_side g (x ∷ gs) a c h =
    let p = and_parts (small g) _ a in
    let q = and_parts (small x) _ p.1 in
    let r = and_parts (rising g x) _ c in
    absurd (omega (arith, ltb→lt x.number 2 q.0, ltb→lt g.number x.number r.0))

-- the side after the permitted one is the excluded one, and the last
second_side : (g x : Group GeneralName) (gs : List (Group GeneralName)) → T (all small (g ∷ x ∷ gs)) → T (chain rising (g ∷ x ∷ gs)) → (x.number ≡ 1) × (gs ≡ [])
second_side g x gs a c =
    let p = and_parts (small g) _ a in
    let q = and_parts (small x) _ p.1 in
    let r = and_parts (rising g x) _ c in
    let n : 0 < x.number = omega (arith, ltb→lt g.number x.number r.0) in
    (omega (arith, ltb→lt x.number 2 q.0), last_side x gs p.1 r.1 n)

module _ (form : Form) where
  -- the texts of each side, where there is one side
  one_own : (g : Group GeneralName) → subtrees_of form g.number (flat (g ∷ [])) ≡ texts_of form g.members
  unfolding flat
  one_own g = own_texts form g.number g.members [] ∙ rw (no_texts form) (append-nil (texts_of form g.members))

  one_other : (k : ℕ) (g : Group GeneralName) → (g.number ≡ k → ⊥) → subtrees_of form k (flat (g ∷ [])) ≡ []
  unfolding flat
  one_other k g h = other_texts form k g.number g.members [] h ∙ no_texts form k

  -- and where there are two
  two_first : (g x : Group GeneralName) → (x.number ≡ g.number → ⊥) → subtrees_of form g.number (flat (g ∷ x ∷ [])) ≡ texts_of form g.members
  unfolding flat
  two_first g x h = own_texts form g.number g.members _ ∙ rw (one_other g.number x h) (append-nil (texts_of form g.members))

  two_second : (g x : Group GeneralName) → (g.number ≡ x.number → ⊥) → subtrees_of form x.number (flat (g ∷ x ∷ [])) ≡ texts_of form x.members
  unfolding flat
  two_second g x h = other_texts form x.number g.number g.members _ h ∙ one_own x

-- ---- one side, as a part

-- the element of tag t whose content stands from b to n is the side g
record SideAt (s : List ℕ) (t b n : ℕ) (g : Group GeneralName) : Type 0 where
  number_is : t ≡ 0xA0 + g.number
  low : g.number < 2
  readable : Readable read_subtree s b n
  texts : (form : Form) → texts_in form s b n ≡ texts_of form g.members

-- a side that is read is found so
side_at_lem : (s : List ℕ) (t b n : ℕ) (g : Group GeneralName) → read_side (raw t (slice b n s)) ≡ some g → SideAt s t b n g
unfolding read_side texts_in
side_at_lem s t b n g e =
    then_some (numbered_by 0xA0 (items read_subtree) (raw t (slice b n s))) _ e λ x p q.
    when_some (some? x.members && ltb x.number 2) (some x) q λ w r.
    when_some (leb 0xA0 t) _ p λ le d.
    then_some (items read_subtree (slice b n s)) _ d λ m f j.
    let x_is : x ≡ g = cc in
    let g_is : g ≡ record { number = t - 0xA0; members = m } = cc in
    let h : 0xA0 ≤ t = leb→le 0xA0 t le in
    let k = ltb→lt x.number 2 (and_parts (some? x.members) (ltb x.number 2) w).1 in
    let a = run_is read_subtree s b n m f in
    record {
      number_is = rw g_is (omega arith);
      low = rw x_is at k;
      readable = a.0;
      texts = λ form. rw (g_is, a.1);
    }

-- a side with no subtrees
no_side : (s : List ℕ) (k : ℕ) → ((form : Form) → subtrees_of form k (names_of read_constraints s) ≡ []) → Side s k 0 0
unfolding texts_in texts_of
no_side s k e = record {
  subtrees = record { order = omega arith; fits = omega arith; readable = no_run read_subtree s 0 };
  texts = λ form. rw (e form, no_items read_subtree s 0);
}

-- a side with the subtrees of a group
one_side : (s : List ℕ) (k t b n : ℕ) (g : Group GeneralName) → SideAt s t b n g → b ≤ n → n ≤ length s
    → ((form : Form) → subtrees_of form k (names_of read_constraints s) ≡ texts_of form g.members) → Side s k b n
one_side s k t b n g w h fits e = record {
  subtrees = record { order = h; fits = fits; readable = w.readable };
  texts = λ form. w.texts form ∙ sym (e form);
}

-- ---- the whole string

module _ (s : List ℕ) (e : Answer) (e_is : e ≡ element_at s 0 (length s)) where
  -- no element, no names
  none_listed : found? e ≡ false → names_of read_constraints s ≡ []
  unfolding names_of read_constraints read_sides
  none_listed q =
      let k : read_sides s ≡ none = nothing_read s e e_is _ q in
      rw k

  pub sides_none : (why : ElementError) → e ≡ Err why → BothSides s (record { permitted = nowhere; excluded = nowhere })
  unfolding subtrees_of
  sides_none why refused =
      let q : found? e ≡ false = rw refused in
      record {
        inside = no_side s permitted (λ form. rw (none_listed q));
        outside = no_side s excluded (λ form. rw (none_listed q));
      }

  -- the content of constraints that have been validated is the run of their sides
  pub side_run : validated read_constraints s ≡ true → (x : Element) → e ≡ Ok x → SideRun s x.start (length s)
  unfolding names_of read_constraints read_sides
  side_run valid x found =
      let r = found_read s (length s) (omega arith) 0 (omega arith) x (sym e_is ∙ found) in
      valid_cases read_constraints s valid (λ q. absurd (omega (arith, r.head, r.body, r.rest, ap length q))) λ l p.
      then_some (read_sides s) _ p λ gs u v.
      let w = content_read _ s gs u in
      then_some (items read_side (slice (content_start s) (length s) s)) _ w.reads λ hs y z.
      when_some (some? hs && chain rising hs) (some hs) z λ good j.
      let hs_is : hs ≡ gs = cc in
      let k = filled read_side s hs (content_start s) w.within y in
      let parts = and_parts (some? hs) (chain rising hs) good in
      let lows = all_weaken good_filled small low_number hs ((items_c side_c).sound (slice (content_start s) (length s) s) y).0 in
      rw (start_found s e e_is x found)
      (record {
        sides = k.elements;
        low = rw k.list lows;
        filled = rw k.list parts.0;
        rise = rw k.list parts.1;
        list = rw (k.list, p, hs_is) (cc);
      })

-- ---- one side or two

module _ (s : List ℕ) (start end : ℕ) (run : SideRun s start end) (e : Answer) (e_is : e ≡ element_at s start end) where
  -- there is a first side
  more : start < end
  more = go (leb end start) refl
    where
      go : (b : Bool) → leb end start ≡ b → start < end
      go false q = leb-false end start q
      go true q =
          let k : start ≡ end = omega (arith, run.sides.order, leb-true end start q) in
          absurd (rw (k, no_items read_side s end) at run.filled)

  no_first : found? e ≡ false → ⊥
  no_first = no_element_lem read_side s start end run.sides more e e_is

  pub sides_missing : (why : ElementError) → e ≡ Err why → BothSides s (record { permitted = nowhere; excluded = nowhere })
  sides_missing why refused = absurd (no_first (rw refused))

  module _ (el : Element) (found : e ≡ Ok el) where
    abbrev t : ℕ
    t = el.tag

    abbrev b : ℕ
    b = el.start

    abbrev n : ℕ
    n = el.next

    one : First read_side s start end t b n
    one = first read_side s start end run.sides more e e_is el found

    one_at : SideAt s t b n one.item
    one_at = side_at_lem s t b n one.item one.item_is

    pub side_order : b ≤ n
    side_order = one.read.body

    pub side_fits : n ≤ length s
    side_fits = omega (arith, one.read.rest, run.sides.fits)

    pub side_next : n ≤ end
    side_next = one.read.rest

    -- what holds of all sides, told of the first and the others
    lows : T (all small (one.item ∷ items_in read_side s n end))
    lows = rw one.list at run.low

    rises : T (chain rising (one.item ∷ items_in read_side s n end))
    rises = rw one.list at run.rise

    listed : flat (one.item ∷ items_in read_side s n end) ≡ names_of read_constraints s
    listed = rw one.list at run.list

    -- only the excluded side
    pub sides_excluded : t ≡ 0xA1 → BothSides s (record { permitted = nowhere; excluded = record { start = b; end = n } })
    sides_excluded q =
        let g = one.item in
        let k : g.number ≡ 1 = omega (arith, one_at.number_is) in
        let rest = last_side g (items_in read_side s n end) lows rises (omega arith) in
        let l : flat (g ∷ []) ≡ names_of read_constraints s = rw rest at listed in
        record {
          inside = no_side s permitted (λ form. rw (← l) (one_other form permitted g (λ j. omega arith)));
          outside = one_side s excluded t b n g one_at side_order side_fits (λ form. rw (← l, ← k) (one_own form g));
        }

    module _ (other : t ≡ 0xA1 → ⊥) (f : Answer) (f_is : f ≡ element_at s n end) where
      -- a first side that is not the excluded one is the permitted one
      number_is : one.item.number ≡ 0
      number_is = omega (arith, one_at.number_is, one_at.low, not_one)
        where
          not_one : one.item.number ≡ 1 → ⊥
          not_one k = other (omega (arith, one_at.number_is))

      -- only the permitted side
      sides_permitted : found? f ≡ false → BothSides s (record { permitted = record { start = b; end = n }; excluded = nowhere })
      sides_permitted q =
          let g = one.item in
          let l : flat (g ∷ []) ≡ names_of read_constraints s = rw (nothing_more (leb end n) refl) at listed in
          record {
            inside = one_side s permitted t b n g one_at side_order side_fits (λ form. rw (← l, ← number_is) (one_own form g));
            outside = no_side s excluded (λ form. rw (← l) (one_other form excluded g (λ j. omega (arith, number_is))));
          }
        where
          nothing_more : (c : Bool) → leb end n ≡ c → items_in read_side s n end ≡ []
          nothing_more true d =
              let k : n ≡ end = omega (arith, one.read.rest, leb-true end n d) in
              rw k (no_items read_side s end)
          nothing_more false d = absurd (no_element_lem read_side s n end one.others (leb-false end n d) f f_is q)

      module _ (ex : Element) (f_found : f ≡ Ok ex) where
        abbrev t' : ℕ
        t' = ex.tag

        abbrev b' : ℕ
        b' = ex.start

        abbrev n' : ℕ
        n' = ex.next

        more_left : n < end
        more_left =
            let r = found_read s end run.sides.fits n one.read.rest ex (sym f_is ∙ f_found) in
            omega (arith, r.head, r.body, r.rest)

        two : First read_side s n end t' b' n'
        two = first read_side s n end one.others more_left f f_is ex f_found

        -- both
        sides_both : BothSides s (record { permitted = record { start = b; end = n }; excluded = record { start = b'; end = n' } })
        sides_both =
            let g = one.item in
            let x = two.item in
            let w = second_side g x (items_in read_side s n' end) (rw two.list at lows) (rw two.list at rises) in
            let l : flat (g ∷ x ∷ []) ≡ names_of read_constraints s = rw (two.list, w.1) at listed in
            record {
              inside = one_side s permitted t b n g one_at side_order side_fits (λ form. rw (← l, ← number_is) (two_first form g x (λ j. omega (arith, number_is, w.0))));
              outside =
                  one_side s excluded t' b' n' x (side_at_lem s t' b' n' x two.item_is) two.read.body (omega (arith, two.read.rest, run.sides.fits))
                  (λ form. rw (← l, ← w.0) (two_second form g x (λ j. omega (arith, number_is, w.0))));
            }

    -- what stands after the first side, which is the permitted one
    pub sides_two : (t ≡ 0xA1 → ⊥) → (r : Part) → r ≡ content_at s n end → BothSides s (record { permitted = record { start = b; end = n }; excluded = r })
    unfolding content_at
    sides_two other r r_is = rw r_is (go (element_at s n end) refl)
      where
        go : (f : Answer) → f ≡ element_at s n end → BothSides s (record { permitted = record { start = b; end = n }; excluded = part_of f })
        go (Ok ex) f_is = sides_both other _ f_is ex refl
        go (Err why) f_is = sides_permitted other _ f_is refl

-- ---- the content of an element

module _ (s : List ℕ) (at end : ℕ) (e : Answer) (e_is : e ≡ element_at s at end) where
  pub content_none : (why : ElementError) → e ≡ Err why → nowhere ≡ content_at s at end
  unfolding content_at
  content_none why refused = rw (← e_is, refused)

  pub content_is : (x : Element) → e ≡ Ok x → record { start = x.start; end = x.next } ≡ content_at s at end
  unfolding content_at
  content_is x found = rw (← e_is, found)

pub ruleset contents = (content_none, content_is)

pub ruleset whole = (sides_none, side_run)

pub ruleset sides = (sides_missing, side_next, sides_excluded, sides_two)
