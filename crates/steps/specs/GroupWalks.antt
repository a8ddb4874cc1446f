-- Walks over lists of names that stand in groups: `subject_walk`, `constraints_walk`.
use Rattle.std.specs.Prelude as std
use Rattle.std.specs.Prelude.{Ok, Err, Some, None}
use Rattle.std.specs.Prelude.{ℕ, suc, ◌+◌, ◌-◌, ◌%◌, ◌≤◌, ◌<◌, ◌≡◌, Bool, true, false, ◌&&◌, T, eqb}
use Rattle.std.proofs.Math.Path.{refl, sym, ap, subst}
use Rattle.std.proofs.Common.{subst₂, ◌∙◌, add-one}
use Rattle.std.proofs.Math.Option.{Option, some}
use mathlib.Core.List.{List, [], ◌∷◌, ◌++◌, map}
use native.Mathlib.Omega.{arith}
use Rattle.std.proofs.Math.ListN.{length}
use Rattle.std.proofs.Math.Dec.{ltb→lt}
use Rattle.std.proofs.Math.Seq.{slice, slice_empty, length-slice}
use borrow.Author.Tests.{lt-ltb, le-ltb, eq-eqb, ne_eqb}
use Rattle.rules.specs.Bytes.{some?, all, chain}
use Rattle.rules.specs.Der.{header, run, Member, Group, groups, rows_of_members, rows_of_groups}
use Rattle.rules.specs.San.{GeneralName, name_kind, write_name}
use Rattle.rules.specs.Subject.{Attribute, attribute_kind, write_attribute, write_set, attribute_row, subject_grammar}
use Rattle.rules.specs.Constraints.{good_restriction, good_subtree, write_subtree, write_side, subtree_row, constraints_grammar}
use Rattle.rules.specs.declared.Row.{Row}
use Rattle.reading.specs.Reader.{also, Raw, raw, write_raw, read_element, tagged, alone, items}
use Rattle.reading.specs.Strings.{flat, number_from, read_attribute, in_order, read_set, read_sets, read_subject, name_of, read_name, read_subtree, read_side, rising, read_sides, read_constraints}
use Rattle.reading.specs.Answers.{then_some, when_some, then_f_some, at_end_some, and_parts, is_true}
use Rattle.reading.proofs.Runs.{items_end}
use Rattle.reading.proofs.Codec.{also_c, items_c}
use Rattle.reading.proofs.Codecs.{attribute_c, set_c, subtree_c, side_c, groups_numbered, groups_sides}
use Rattle.der.specs.Places.{element_at, tag_fits, tagged_at}
use Rattle.der.specs.Reads.{Read}
use Rattle.der.specs.declared.Element.{Element}
use Rattle.der.specs.declared.ElementError.TheVariants.{Truncated}
use Rattle.der.proofs.Elements.{element_none}
use Rattle.entries.specs.Entries.{text_tag_of, text_of, named, place_name, place_attribute, attribute_at, read_shape, subtree_at}
use Rattle.steps.specs.Steps.{next_group, cursor, shown, set_opened, attribute_next, side_opened, subtree_next, start, entry, step}
use Rattle.steps.specs.Walks.{Walk, done, more, run_cons, run_over, step_over, name_of_lem, written_length, content_start_lem, outer_read}
use Rattle.steps.specs.declared.Cursor.{Cursor}
use Rattle.steps.specs.declared.Source.TheVariants.{Subject, Constraints}
use Rattle.steps.specs.declared.Step.{Step}

-- the names of one group
abbrev pub members_of : {A : Type 0} → ℕ → List A → List (Member A)
members_of i l = map (λ a. record { group = i; value = a }) l

-- ---- an empty run ends where it starts

run_on : {A : Type 0} (f : Raw → Option A) (s : List ℕ) (n end : ℕ) (a : A) (l : List A) → items f (slice n end s) ≡ some (a ∷ l) → n ≡ end → ⊥
run_on f s n end a l e q =
    let p : some [] ≡ some (a ∷ l) = rw (q, slice_empty end s, items_end f) at e in
    let z : ◌≡◌ {A = ℕ} 0 1 = cc in omega arith

-- ---- the members of a group

module _ {A : Type 0} (f : Raw → Option A) (write : A → List ℕ) (row : ℕ → ℕ → A → Row) (step : Cursor → std.Option Step) (s : List ℕ) (next_of : ℕ → ℕ → ℕ → Cursor) where
  -- the step at a member: its row, and where the walk goes on
  pub record Stepped (at end i n : ℕ) (a : A) : Type 0 where
    pub to : Step
    pub is : step (cursor at end i) ≡ Some to
    pub row_is : to.row ≡ row at i a
    pub next_is : to.next ≡ next_of n end i
    pub there : at + length (write a) ≡ n

  abbrev StepsAll : Type 0
  StepsAll = (at end i : ℕ) (x : Element) (a : A) → at ≤ end → end ≤ length s → element_at s at end ≡ Ok x → Read s at end x.tag x.start x.next
      → f (raw x.tag (slice x.start x.next s)) ≡ some a → Stepped at end i x.next a

  module _ (one : StepsAll) (go_on : (n end i : ℕ) → (n ≡ end → ⊥) → next_of n end i ≡ cursor n end i) where
    pub members_walk : (a : A) (l : List A) (at end i : ℕ) {rest : List (Member A)} {rows : List Row} → at ≤ end → end ≤ length s
        → items f (slice at end s) ≡ some (a ∷ l) → Walk step (next_of end end i) rest rows
        → Walk step (cursor at end i) (members_of i (a ∷ l) ++ rest) (rows_of_members write row at i (a ∷ l) ++ rows)
    unfolding rows_of_members
    members_walk a [] at end i {rest} {rows} h fits e w =
        run_cons f s at end h fits a [] e λ x found d q r.
        let o = one at end i x a h fits found d q in
        let y : x.next ≡ end = run_over f s x.next end d.rest fits r in
        more o.is o.row_is (subst (λ c. Walk step c rest rows) (sym (o.next_is ∙ ap (λ n. next_of n end i) y)) w)
    members_walk a (a' ∷ l) at end i {rest} {rows} h fits e w =
        run_cons f s at end h fits a (a' ∷ l) e λ x found d q r.
        let n = x.next in
        let o = one at end i x a h fits found d q in
        let y = go_on n end i (run_on f s n end a' l r) in
        let v = members_walk a' l n end i d.rest fits r w in
        more o.is o.row_is
        (subst (λ c. Walk step c (members_of i (a' ∷ l) ++ rest) (rows_of_members write row (at + length (write a)) i (a' ∷ l) ++ rows)) (sym (o.next_is ∙ y))
        (subst (λ x. Walk step (cursor n end i) (members_of i (a' ∷ l) ++ rest) (rows_of_members write row x i (a' ∷ l) ++ rows)) (sym o.there) v))

-- ---- the subject

module _ (s : List ℕ) where
  attribute_steps : StepsAll read_attribute write_attribute attribute_row (step Subject s) s (attribute_next s)
  unfolding step entry attribute_at place_attribute attribute_row write_attribute
  attribute_steps at end i x a h fits found d q =
      let n = x.next in
      let k : n ≤ length s = omega (arith, d.rest) in
      let w = (attribute_c.sound (raw x.tag (slice x.start n s)) q).1 in
      let y : attribute_at s x.tag x.start n ≡ named (attribute_kind a) a.tag (n - length a.content) = rw q in
      let len : length (write_attribute a) ≡ n - at = written_length s at end x.tag x.start n fits d (write_attribute a) (ap write_raw w) in
      record {
        to = shown (attribute_kind a) at n i (attribute_next s n end i);
        is = rw (le-ltb (length s) end fits, le-ltb end at h, found, y);
        row_is = λ j. record { kind = attribute_kind a; start = at; length = sym len j; group = i };
        next_is = refl;
        there = omega (arith, len, d.head, d.body);
      }

  set_reads : (t : ℕ) (c : List ℕ) (set : List Attribute) → read_set (raw t c) ≡ some set → (eqb t 0x31 ≡ true) × (items read_attribute c ≡ some set) × T (some? set)
  unfolding read_set
  set_reads t c set e =
      when_some (eqb t 0x31) _ e λ v w.
      then_some (items read_attribute c) _ w λ l p q.
      when_some (in_order l) (some l) q λ y z.
      let m : l ≡ set = cc in
      (is_true (eqb t 0x31) v, p ∙ z, rw m at (and_parts (some? l) _ y).0)

  set_opens : (at i : ℕ) (x : Element) → element_at s at (length s) ≡ Ok x → eqb x.tag 0x31 ≡ true → set_opened s at i ≡ cursor x.start x.next i
  unfolding set_opened tagged_at tag_fits
  set_opens at i x found e = rw (found, e)

  -- no set is left
  sets_over : (i : ℕ) → set_opened s (length s) i ≡ cursor (length s) (length s) i
  unfolding set_opened tagged_at tag_fits
  sets_over i =
      let none : element_at s (length s) (length s) ≡ Err Truncated = sym (element_none s (length s) (omega arith) (length s) (omega arith) (omega arith)) in
      rw none

  attribute_on : (n end i : ℕ) → (n ≡ end → ⊥) → attribute_next s n end i ≡ cursor n end i
  unfolding attribute_next
  attribute_on n end i ne = rw (ne_eqb n end ne)

  attribute_over : (n i : ℕ) → i < n → attribute_next s n n i ≡ set_opened s n (suc i)
  unfolding attribute_next next_group
  attribute_over n i h = rw (eq-eqb n n refl, lt-ltb i n h, add-one)

  sets_walk : (sets : List (List Attribute)) (at i : ℕ) → at ≤ length s → i ≤ at → items read_set (slice at (length s) s) ≡ some sets
      → Walk (step Subject s) (set_opened s at i) (flat (number_from i sets)) (rows_of_groups write_attribute attribute_row at (number_from i sets))
  unfolding flat number_from rows_of_groups write_attribute
  sets_walk [] at i h g e =
      let over = run_over read_set s at (length s) h (omega arith) e in
      done (ap (λ x. step Subject s (set_opened s x i)) over ∙ ap (step Subject s) (sets_over i) ∙ step_over Subject s (length s) i (omega arith))
  sets_walk ([] ∷ sets) at i h g e =
      run_cons read_set s at (length s) h (omega arith) [] sets e λ x found d q r.
      absurd (set_reads x.tag (slice x.start x.next s) [] q).2
  sets_walk ((a ∷ l) ∷ sets) at i h g e =
      run_cons read_set s at (length s) h (omega arith) (a ∷ l) sets e λ x found d q r.
      let b = x.start in
      let n = x.next in
      let p = set_reads x.tag (slice b n s) (a ∷ l) q in
      let k : n ≤ length s = d.rest in
      let content = run write_attribute (a ∷ l) in
      let c : slice b n s ≡ content = ((items_c attribute_c).sound (slice b n s) p.1).1 in
      let u : b ≡ at + header content = content_start_lem s at (length s) x.tag b n (omega arith) d ∙ ap (λ x. at + header x) c in
      let v : n ≡ at + header content + length content = omega (arith, u, ap length c, length-slice b n s k, d.body) in
      let rest = sets_walk sets n (suc i) k (omega (arith, d.head, d.body)) r in
      let all = members_walk read_attribute write_attribute attribute_row (step Subject s) s (attribute_next s) attribute_steps attribute_on a l b n i d.body k p.1
      (subst (λ x. Walk (step Subject s) x (flat (number_from (suc i) sets)) (rows_of_groups write_attribute attribute_row n (number_from (suc i) sets))) (sym (attribute_over n i (omega (arith, d.head, d.body)))) rest) in
      subst (λ x. Walk (step Subject s) x (flat (number_from i ((a ∷ l) ∷ sets))) (rows_of_groups write_attribute attribute_row at (number_from i ((a ∷ l) ∷ sets)))) (sym (set_opens at i x found p.0))
      (subst₂ (λ x y. Walk (step Subject s) (cursor b n i) (flat (number_from i ((a ∷ l) ∷ sets))) (rows_of_members write_attribute attribute_row x i (a ∷ l) ++ rows_of_groups write_attribute attribute_row y (number_from (suc i) sets))) u v all)

-- the sets as they are read are the groups as they are written
run_numbered : (i : ℕ) (sets : List (List Attribute)) → run write_set (number_from i sets) ≡ run (λ m. write_raw (raw 0x31 (run write_attribute m))) sets
unfolding run number_from write_set
run_numbered i [] = refl
run_numbered i (m ∷ sets) = rw (run_numbered (suc i) sets)

-- a subject that is read: from its start the steps show its list, with the rows of that list
pub subject_walk : (s : List ℕ) (l : List (Member Attribute)) → read_subject s ≡ some l → Walk (step Subject s) (start Subject s) l (subject_grammar.rows l)
unfolding read_subject read_sets start write_set
subject_walk s l e =
    then_some (alone (tagged 0x30 (items read_set)) s) _ e λ sets p q.
    outer_read (items read_set) s sets p λ x found whole d r.
    let b = x.start in
    let m : l ≡ flat (number_from 0 sets) = cc in
    let c = (items_c set_c).sound (slice b (length s) s) r in
    let g : groups l ≡ number_from 0 sets = ap groups m ∙ groups_numbered sets c.0 in
    let w : run write_set (number_from 0 sets) ≡ slice b (length s) s = run_numbered 0 sets ∙ sym c.1 in
    let st : b ≡ header (run write_set (groups l)) = content_start_lem s 0 (length s) x.tag b (length s) (omega arith) d ∙ omega arith ∙ ap header (sym (ap (run write_set) g ∙ w)) in
    rw found (subst₂ (λ x gs. Walk (step Subject s) (set_opened s b 0) l (rows_of_groups write_attribute attribute_row x gs)) st (sym g)
    (subst (λ y. Walk (step Subject s) (set_opened s b 0) y (rows_of_groups write_attribute attribute_row b (number_from 0 sets))) (sym m) (sets_walk s sets b 0 d.body (omega arith) r)))

-- ---- constraints

module _ (s : List ℕ) where
  shape_of : (x : Raw) (m : GeneralName) → read_subtree x ≡ some m → read_shape x ≡ some m
  unfolding read_subtree read_shape
  shape_of x m e =
      when_some (eqb x.tag 0x30) _ e λ v w.
      then_f_some (read_element x.content) _ w λ y r p q.
      at_end_some r _ q λ z u.
      then_some (read_name y) _ u λ m' i j.
      when_some (good_restriction m') (some m') j λ k o.
      let n : name_of y ≡ some m = name_of_lem s y m' i ∙ o in
      rw (is_true (eqb x.tag 0x30) v, p, z) n

  subtree_steps : StepsAll read_subtree write_subtree subtree_row (step Constraints s) s (subtree_next s)
  unfolding step entry subtree_at place_name subtree_row write_subtree write_name
  subtree_steps at end i x m h fits found d q =
      let b = x.start in
      let n = x.next in
      let k : n ≤ length s = omega (arith, d.rest) in
      let w = (subtree_c.sound (raw x.tag (slice b n s)) q).1 in
      let c : slice b n s ≡ write_name m = ap (λ v. v.content) w in
      let y : subtree_at s x.tag b n ≡ named (name_kind m) (text_tag_of m) (n - length (text_of m)) = rw (shape_of (raw x.tag (slice b n s)) m q) in
      let u : b ≡ at + header (write_name m) = content_start_lem s at end x.tag b n fits d ∙ ap (λ v. at + header v) c in
      let len : n - b ≡ length (write_name m) = sym (length-slice b n s k) ∙ ap length c in
      let whole : length (write_subtree m) ≡ n - at = written_length s at end x.tag b n fits d (write_subtree m) (ap write_raw w) in
      record {
        to = shown (name_kind m) b n i (subtree_next s n end i);
        is = rw (le-ltb (length s) end fits, le-ltb end at h, found, y);
        row_is = λ j. record { kind = name_kind m; start = u j; length = len j; group = i };
        next_is = refl;
        there = omega (arith, whole, d.head, d.body);
      }

  subtree_on : (n end i : ℕ) → (n ≡ end → ⊥) → subtree_next s n end i ≡ cursor n end i
  unfolding subtree_next
  subtree_on n end i ne = rw (ne_eqb n end ne)

  subtree_over : (n i : ℕ) → subtree_next s n n i ≡ side_opened s n
  unfolding subtree_next
  subtree_over n i = rw (eq-eqb n n refl)

  side_opens : (at : ℕ) (x : Element) → element_at s at (length s) ≡ Ok x → side_opened s at ≡ cursor x.start x.next (x.tag % 2)
  unfolding side_opened
  side_opens at x found = rw found

  -- no side is left
  sides_over : side_opened s (length s) ≡ cursor (length s) (length s) 0
  unfolding side_opened
  sides_over =
      let none : element_at s (length s) (length s) ≡ Err Truncated = sym (element_none s (length s) (omega arith) (length s) (omega arith) (omega arith)) in
      rw none

  -- what a side that is read says
  side_says : (t : ℕ) (c : List ℕ) (g : Group GeneralName) → read_side (raw t c) ≡ some g
      → (t % 2 ≡ g.number) × (c ≡ run write_subtree g.members) × (items read_subtree c ≡ some g.members) × T (some? g.members)
  unfolding write_subtree
  side_says t c g e =
      let z = side_c.sound (raw t c) e in
      let p = and_parts (all good_subtree g.members) _ z.0 in
      let q = and_parts (some? g.members) _ p.1 in
      let n : t ≡ 0xA0 + g.number = ap (λ x. x.tag) z.1 in
      let k : g.number < 2 = ltb→lt g.number 2 q.1 in
      let w : c ≡ run write_subtree g.members = ap (λ x. x.content) z.1 in
      (omega arith, w, rw w ((items_c subtree_c).complete g.members p.0), q.0)

  -- a side that is read is walked, and then what follows it
  side_walk : (i : ℕ) (ms : List GeneralName) (b n : ℕ) {rest : List (Member GeneralName)} {rows : List Row} → b ≤ n → n ≤ length s → T (some? ms) → items read_subtree (slice b n s) ≡ some ms
      → Walk (step Constraints s) (side_opened s n) rest rows
      → Walk (step Constraints s) (cursor b n i) (members_of i ms ++ rest) (rows_of_members write_subtree subtree_row b i ms ++ rows)
  side_walk i [] b n h fits t e w = absurd t
  side_walk i (m ∷ ms) b n {rest} {rows} h fits t e w =
      members_walk read_subtree write_subtree subtree_row (step Constraints s) s (subtree_next s) subtree_steps subtree_on m ms b n i h fits e
      (subst (λ x. Walk (step Constraints s) x rest rows) (sym (subtree_over n i)) w)

  sides_walk : (gs : List (Group GeneralName)) (at : ℕ) → at ≤ length s → items read_side (slice at (length s) s) ≡ some gs
      → Walk (step Constraints s) (side_opened s at) (flat gs) (rows_of_groups write_subtree subtree_row at gs)
  unfolding flat rows_of_groups
  sides_walk [] at h e =
      let over = run_over read_side s at (length s) h (omega arith) e in
      done (ap (λ x. step Constraints s (side_opened s x)) over ∙ ap (step Constraints s) sides_over ∙ step_over Constraints s (length s) 0 (omega arith))
  sides_walk (g ∷ gs) at h e =
      run_cons read_side s at (length s) h (omega arith) g gs e λ x found d q r.
      let b = x.start in
      let n = x.next in
      let p = side_says x.tag (slice b n s) g q in
      let k : n ≤ length s = d.rest in
      let content = run write_subtree g.members in
      let u : b ≡ at + header content = content_start_lem s at (length s) x.tag b n (omega arith) d ∙ ap (λ x. at + header x) p.1 in
      let v : n ≡ at + header content + length content = omega (arith, u, ap length p.1, length-slice b n s k, d.body) in
      let rest = sides_walk gs n k r in
      let opens : side_opened s at ≡ cursor b n g.number = side_opens at x found ∙ ap (cursor b n) p.0 in
      let all = side_walk g.number g.members b n d.body k p.3 p.2 rest in
      subst (λ x. Walk (step Constraints s) x (flat (g ∷ gs)) (rows_of_groups write_subtree subtree_row at (g ∷ gs))) (sym opens)
      (subst₂ (λ x y. Walk (step Constraints s) (cursor b n g.number) (flat (g ∷ gs)) (rows_of_members write_subtree subtree_row x g.number g.members ++ rows_of_groups write_subtree subtree_row y gs)) u v all)

-- constraints that are read: from their start the steps show their list, with the rows of that list
pub constraints_walk : (s : List ℕ) (l : List (Member GeneralName)) → read_constraints s ≡ some l → Walk (step Constraints s) (start Constraints s) l (constraints_grammar.rows l)
unfolding read_constraints read_sides start write_side
constraints_walk s l e =
    then_some (alone (tagged 0x30 (also (λ gs. some? gs && chain rising gs) (items read_side))) s) _ e λ gs p q.
    outer_read (also (λ gs. some? gs && chain rising gs) (items read_side)) s gs p λ x found whole d r.
    let b = x.start in
    let m : l ≡ flat gs = cc in
    let c = (also_c (items_c side_c) (λ gs. some? gs && chain rising gs)).sound (slice b (length s) s) r in
    let g : groups l ≡ gs = ap groups m ∙ groups_sides gs c.0 in
    then_some (items read_side (slice b (length s) s)) _ r λ gs' y z.
    when_some (some? gs' && chain rising gs') (some gs') z λ v w.
    let i : items read_side (slice b (length s) s) ≡ some gs = y ∙ w in
    let st : b ≡ header (run write_side (groups l)) = content_start_lem s 0 (length s) x.tag b (length s) (omega arith) d ∙ omega arith ∙ ap header (c.1 ∙ ap (run write_side) (sym g)) in
    rw found (subst₂ (λ x hs. Walk (step Constraints s) (side_opened s b) l (rows_of_groups write_subtree subtree_row x hs)) st (sym g)
    (subst (λ y. Walk (step Constraints s) (side_opened s b) y (rows_of_groups write_subtree subtree_row b gs)) (sym m) (sides_walk s gs b d.body i)))
