-- Each string's reader reads exactly what its grammar writes: `san_c`, `subject_c`, `constraints_c`.
use Rattle.std.specs.Prelude.{ℕ, suc, ◌+◌, ◌≡◌, refl, Bool, true, false, ◌&&◌, List, [], ◌∷◌, ◌++◌, map, T, eqb, ltb}
use Rattle.std.proofs.Common.{sym, ap, arith, lt→ltb, eqb→eq, eqb-true, eq-eqb, ne_eqb}
use Rattle.std.proofs.Math.Option.{some}
use Rattle.rules.specs.Bytes.{some?, all, chain, up_to}
use Rattle.rules.specs.Der.{element, run, Member, Group, groups}
use Rattle.rules.specs.San.{GeneralName, plain, other, good_oid, good_value, tag_of, content_of, write_name, good_name, san_grammar}
use Rattle.rules.specs.Subject.{Attribute, write_attribute, good_attribute, write_set, good_set, numbered, subject_grammar}
use Rattle.rules.specs.Constraints.{good_restriction, good_subtree, write_subtree, write_side, good_side, constraints_grammar}
use Rattle.reading.specs.Reader.{Raw, raw, write_raw}
use Rattle.reading.specs.Strings.{read_oid, read_value, read_other, name_of, read_name, read_san, flat, number_from, read_attribute, in_order, read_set, read_sets, read_subject, read_subtree, read_side, rising, read_sides, read_constraints}
use Rattle.reading.specs.Answers.{then_some, when_some, and_parts, both, is_true, all_weaken, all_both}
use Rattle.reading.specs.Codec.{Codec}
use Rattle.reading.proofs.Codec.{also_c, tagged_c, alone_c, as_is_c, via_c, written_c, numbered_by_c, two_c, items_c}
use Rattle.reading.specs.Groups.{filled, flat_groups, groups_filled, groups_flat, members_number_from}
use Rattle.reading.specs.Codecs.{raw_name, good_members, write_members, good_filled}

-- ---- SAN

pub oid_c : Codec read_oid good_oid (raw 0x06)
oid_c = tagged_c (as_is_c good_oid) 0x06

pub value_c : Codec read_value (λ x. good_value x.tag x.content) (λ x. x)
value_c = as_is_c (λ x. good_value x.tag x.content)

pub other_c : Codec read_other (λ p. good_oid p.0 && good_value p.1.tag p.1.content) (λ p. write_raw (raw 0x06 p.0) ++ write_raw (raw 0xA0 (write_raw p.1)))
other_c = two_c oid_c (tagged_c (alone_c value_c) 0xA0)

pub name_of_sound : (x : Raw) {n : GeneralName} → name_of x ≡ some n → x ≡ raw_name n
unfolding name_of tag_of content_of
name_of_sound x {n} e = go (eqb x.tag 0xA0) refl
  where
    go : (t : Bool) → eqb x.tag 0xA0 ≡ t → x ≡ raw_name n
    go true f =
        then_some (read_other x.content) _ (rw (f, name_of) at e) λ p q r.
        let k : n ≡ other p.0 p.1.tag p.1.content = cc in
        rw k (λ i. raw (eqb-true x.tag 0xA0 f i) ((other_c.sound x.content q).1 i))
    go false f =
        let r : some (plain x.tag x.content) ≡ some n = rw (f, name_of) at e in
        let k : n ≡ plain x.tag x.content = cc in
        rw k

-- A0 is no tag of a plain name, so no name is taken for another
name_of_complete : (n : GeneralName) → T (good_name n) → name_of (raw_name n) ≡ some n
unfolding name_of tag_of content_of good_name
name_of_complete (plain t c) g =
    let ne : eqb t 0xA0 ≡ false = ne_eqb t 0xA0 (λ e. rw e at g) in
    simp (ne, name_of)
name_of_complete (other o t c) g =
    let s = and_parts (good_oid o && good_value t c) _ g in
    rw (other_c.complete (o, raw t c) s.0)

pub name_c : Codec read_name good_name raw_name
unfolding read_name
name_c = record {
  sound = λ x {a} e.
      then_some (name_of x) _ e λ n p q.
      when_some (good_name n) _ q λ t r.
      let k : a ≡ n = cc in
      rw k (t, name_of_sound x p);
  complete = λ n g. simp (name_of_complete n g, is_true (good_name n) g);
}

pub san_c : Codec read_san san_grammar.good san_grammar.write
unfolding read_san write_name
san_c = alone_c (tagged_c (also_c (items_c name_c) some?) 0x30)

-- ---- the subject

pub attribute_c : Codec read_attribute good_attribute (λ a. raw 0x30 (element 0x06 a.oid ++ element a.tag a.content))
unfolding read_attribute good_attribute
attribute_c = tagged_c (via_c (two_c oid_c value_c) _ (λ a. (a.oid, raw a.tag a.content)) (λ p g. (g, refl)) (λ a g. (g, refl))) 0x30

pub set_c : Codec read_set good_members (λ s. raw 0x31 (run write_attribute s))
unfolding read_set write_attribute
set_c = tagged_c (also_c (items_c attribute_c) in_order) 0x31

pub sets_c : Codec read_sets (all good_members) (λ sets. element 0x30 (run write_members sets))
unfolding read_sets
sets_c = alone_c (tagged_c (items_c set_c) 0x30)

abbrev sets_of : List (Group Attribute) → List (List Attribute)
sets_of gs = map (λ g. g.members) gs

number_from_filled : (i : ℕ) (sets : List (List Attribute)) → T (all good_members sets) → T (all filled (number_from i sets))
unfolding number_from
number_from_filled i [] g = tt
number_from_filled i (s ∷ sets) g =
    let p = and_parts (good_members s) _ g in
    both (some? s) _ (and_parts (some? s) _ (and_parts (all good_attribute s) _ p.0).1).0 (number_from_filled (suc i) sets p.1)

number_from_rising : (i : ℕ) (sets : List (List Attribute)) → T (chain rising (number_from i sets))
unfolding number_from
number_from_rising i [] = tt
number_from_rising i (s ∷ []) = tt
number_from_rising i (s ∷ t ∷ sets) = both (ltb i (suc i)) _ (lt→ltb i (suc i) (omega arith)) (number_from_rising (suc i) (t ∷ sets))

-- numbered groups are good where the sets are
number_from_good : (i : ℕ) (sets : List (List Attribute)) → T (all good_members sets) → T (numbered i (number_from i sets)) × T (all good_set (number_from i sets))
unfolding number_from numbered good_set
number_from_good i [] g = (tt, tt)
number_from_good i (s ∷ sets) g =
    let p = and_parts (good_members s) _ g in
    let q = and_parts (all good_attribute s) _ p.0 in
    let r = and_parts (some? s) _ q.1 in
    let ih = number_from_good (suc i) sets p.1 in (
      rw (eq-eqb i i refl) ih.0,
      both (all good_attribute s && chain (λ a b. up_to (write_attribute a) (write_attribute b)) s) _ (both (all good_attribute s) _ q.0 r.1) ih.1,
    )

-- and groups numbered without a gap are told from their sets alone
sets_of_number : (i : ℕ) (gs : List (Group Attribute)) → T (numbered i gs) → number_from i (sets_of gs) ≡ gs
unfolding number_from numbered
sets_of_number i [] n = refl
sets_of_number i (g ∷ gs) n =
    let p = and_parts (eqb g.number i) _ n in
    let k : i ≡ g.number = sym (eqb→eq g.number i p.0) in
    λ j. record { number = k j; members = g.members } ∷ sets_of_number (suc i) gs p.1 j

sets_of_good : (gs : List (Group Attribute)) → T (all filled gs) → T (all good_set gs) → T (all good_members (sets_of gs))
unfolding good_set
sets_of_good [] f g = tt
sets_of_good (h ∷ gs) f g =
    let p = and_parts (filled h) _ f in
    let q = and_parts (all good_attribute h.members && chain (λ a b. up_to (write_attribute a) (write_attribute b)) h.members) _ g in
    let r = and_parts (all good_attribute h.members) _ q.0 in
    both (good_members h.members) _
    (both (all good_attribute h.members) _ r.0 (both (some? h.members) _ p.0 r.1))
    (sets_of_good gs p.1 q.1)

pub groups_numbered : (sets : List (List Attribute)) → T (all good_members sets) → groups (flat (number_from 0 sets)) ≡ number_from 0 sets
groups_numbered sets g = groups_flat (number_from 0 sets) (number_from_filled 0 sets g) (number_from_rising 0 sets)

run_members : (gs : List (Group Attribute)) → run write_members (sets_of gs) ≡ run write_set gs
unfolding run write_set
run_members [] = refl
run_members (g ∷ gs) = rw (run_members gs)

pub subject_c : Codec read_subject subject_grammar.good subject_grammar.write
unfolding read_subject
subject_c =
    written_c (via_c sets_c _ (λ l. sets_of (groups l)) there back) (λ l. ap (element 0x30) (run_members (groups l)))
  where
    there : (sets : List (List Attribute)) → T (all good_members sets)
        → T (subject_grammar.good (flat (number_from 0 sets))) × (sets_of (groups (flat (number_from 0 sets))) ≡ sets)
    there sets g =
        let k = number_from_good 0 sets g in
        rw (groups_numbered sets g) (both (numbered 0 (number_from 0 sets)) _ k.0 k.1, members_number_from 0 sets)

    back : (l : List (Member Attribute)) → T (subject_grammar.good l)
        → T (all good_members (sets_of (groups l))) × (flat (number_from 0 (sets_of (groups l))) ≡ l)
    back l g =
        let p = and_parts (numbered 0 (groups l)) _ g in
        (sets_of_good (groups l) (groups_filled l) p.1, rw (sets_of_number 0 (groups l) p.0) (flat_groups l))

-- ---- constraints

pub subtree_c : Codec read_subtree good_subtree (λ n. raw 0x30 (write_name n))
unfolding read_subtree write_name good_subtree
subtree_c = tagged_c (alone_c (also_c name_c good_restriction)) 0x30

pub side_c : Codec read_side good_filled (λ g. raw (0xA0 + g.number) (run write_subtree g.members))
unfolding read_side write_subtree
side_c = also_c (numbered_by_c 0xA0 (items_c subtree_c)) _

abbrev good_sides : List (Group GeneralName) → Bool
good_sides gs = all good_filled gs && (some? gs && chain rising gs)

sides_c : Codec read_sides good_sides (λ gs. element 0x30 (run write_side gs))
unfolding read_sides write_side
sides_c = alone_c (tagged_c (also_c (items_c side_c) _) 0x30)

filled_of : (g : Group GeneralName) → T (good_filled g) → T (filled g)
filled_of g h = (and_parts (filled g) _ (and_parts (all good_subtree g.members) _ h).1).0

side_of : (g : Group GeneralName) → T (good_filled g) → T (good_side g)
unfolding good_side
side_of g h =
    let p = and_parts (all good_subtree g.members) _ h in
    both (all good_subtree g.members) _ p.0 (and_parts (filled g) _ p.1).1

of_both : (g : Group GeneralName) → T (filled g && good_side g) → T (good_filled g)
unfolding good_side
of_both g h =
    let p = and_parts (filled g) _ h in
    let q = and_parts (all good_subtree g.members) _ p.1 in
    both (all good_subtree g.members) _ q.0 (both (filled g) _ p.0 q.1)

pub groups_sides : (gs : List (Group GeneralName)) → T (good_sides gs) → groups (flat gs) ≡ gs
groups_sides gs g =
    let p = and_parts (all good_filled gs) _ g in
    groups_flat gs (all_weaken good_filled filled filled_of gs p.0) (and_parts (some? gs) _ p.1).1

pub constraints_c : Codec read_constraints constraints_grammar.good constraints_grammar.write
unfolding read_constraints
constraints_c = via_c sides_c flat groups there back
  where
    there : (gs : List (Group GeneralName)) → T (good_sides gs) → T (constraints_grammar.good (flat gs)) × (groups (flat gs) ≡ gs)
    there gs g =
        let p = and_parts (all good_filled gs) _ g in
        rw (groups_sides gs g) (both (all good_side gs) _ (all_weaken good_filled good_side side_of gs p.0) p.1, refl)

    back : (l : List (Member GeneralName)) → T (constraints_grammar.good l) → T (good_sides (groups l)) × (flat (groups l) ≡ l)
    back l g =
        let p = and_parts (all good_side (groups l)) _ g in
        let f = all_weaken (λ h. filled h && good_side h) good_filled of_both (groups l) (all_both filled good_side (groups l) (groups_filled l) p.0) in
        (both (all good_filled (groups l)) _ f p.1, flat_groups l)
