-- Each row of a list: where its name's element is written, its kind and its group.
use Prim.Native.Nat.{ℕ, zero, suc, ◌+◌, ◌-◌, ◌%◌, ◌≤◌, ◌<◌}
use mathlib.Core.Path.{◌≡◌, refl, sym, ap, subst, ◌∙◌}
use mathlib.Core.Logic.{◌⊎◌, inl, inr, ⊎_elim}
use mathlib.Core.Bool.{Bool, true, false, cond, ◌||◌, true≢false}
use mathlib.Core.Option.{some, some-injective}
use mathlib.Core.List.{List, [], ◌∷◌, ◌++◌, append_assoc, append-nil}
use native.Mathlib.Omega.{arith}
use lib.ListN.{length, take, get_elem?, length-append}
use lib.Dec.{ltb, eqb}
use borrow.Author.Tests.{ltb-true, ltb-false, eq-eqb, eqb-true, eqb-false}
use Rattle.rules.specs.Bytes.{same}
use Rattle.rules.specs.Der.{Member, Group, element, header, run, groups, rows_of_members, rows_of_groups, Writes}
use Rattle.rules.specs.San.{GeneralName, plain, other, srv_oid, name_kind, write_name, rows_of_names, san_grammar}
use Rattle.rules.specs.Subject.{Attribute, is_cn, cn_oid, cn_tag, attribute_kind, write_attribute, attribute_row, write_set, subject_grammar}
use Rattle.rules.specs.Constraints.{write_subtree, subtree_row, write_side}
use Rattle.rules.specs.declared.Row.{Row}
use Rattle.reading.specs.Strings.{flat}
use Rattle.reading.specs.Groups.{members, flat_groups}
use Rattle.reading.specs.Answers.{no_some}
use Rattle.rules.proofs.Test.{same_eq}
use Rattle.demands.specs.Statements.{head, front_in_groups, NameKind, AttributeKind, CertificateString, RowOf, san_string, subject_string, constraints_string}

-- ---- lists side by side

module _ {A : Type 0} where
  -- the i-th of two lists is in the first, or stands in the second
  at_left : (l m : List A) (i : ℕ) → i < length l → get_elem? (l ++ m) i ≡ get_elem? l i
  at_left [] m i h = absurd (omega arith)
  at_left (a ∷ l) m zero h = refl
  at_left (a ∷ l) m (suc i) h = at_left l m i (omega arith)

  at_right : (l m : List A) (i : ℕ) → length l ≤ i → get_elem? (l ++ m) i ≡ get_elem? m (i - length l)
  at_right [] m i h = ap (get_elem? m) (omega arith)
  at_right (a ∷ l) m zero h = absurd (omega arith)
  at_right (a ∷ l) m (suc i) h = at_right l m i (omega arith) ∙ ap (get_elem? m) (omega arith)

-- ---- a row and what it covers

-- b is front, then e, then something else; the row covers e, and has this kind and group
pub record RowAt (front e b : List ℕ) (kind group : ℕ) (r : Row) : Type 0 where
  pub size : r.length ≡ length e
  pub start : r.start ≡ length front
  pub behind : List ℕ
  pub bytes : b ≡ front ++ (e ++ behind)
  pub kind_is : r.kind ≡ kind
  pub group_is : r.group ≡ group

-- the same, said of equal bytes
moved : {front front' e b b' : List ℕ} {kind group : ℕ} {r : Row} → front ≡ front' → b ≡ b' → RowAt front e b kind group r → RowAt front' e b' kind group r
moved {e} p q w = record {
  size = w.size;
  start = w.start ∙ ap length p;
  behind = w.behind;
  bytes = sym q ∙ w.bytes ∙ ap (λ x. x ++ (e ++ w.behind)) p;
  kind_is = w.kind_is;
  group_is = w.group_is;
}

-- what stands before a content is as long as its header says
head_length : (t : ℕ) (c : List ℕ) → length (head t c) ≡ header c
unfolding header
head_length t c = refl

element_parts : (t : ℕ) (c : List ℕ) → element t c ≡ head t c ++ c
unfolding element
element_parts t c = refl

-- ---- SAN

-- entries side by side behind `pre`, numbered from k on
names_at : (pre : List ℕ) (at k : ℕ) (l : List GeneralName) → length pre ≡ at
    → (i : ℕ) (n : GeneralName) (r : Row) → get_elem? l i ≡ some n → get_elem? (rows_of_names at k l) i ≡ some r
    → RowAt (pre ++ run write_name (take i l)) (write_name n) (pre ++ run write_name l) (name_kind n) (k + i) r
unfolding run rows_of_names
names_at pre at k [] h i n r e f = absurd (no_some e)
names_at pre at k (m ∷ l) h zero n r e f =
    let q = some-injective _ r f in
    subst (λ x. RowAt (pre ++ []) (write_name x) (pre ++ (write_name m ++ run write_name l)) (name_kind x) (k + 0) r) (some-injective m n e)
    (record {
      size = sym (ap (λ x. x.length) q);
      start = sym (ap (λ x. x.start) q) ∙ simp length-append (omega arith);
      behind = run write_name l;
      bytes = sym (append_assoc pre [] _);
      kind_is = sym (ap (λ x. x.kind) q);
      group_is = sym (ap (λ x. x.group) q) ∙ omega arith;
    })
names_at pre at k (m ∷ l) h (suc i) n r e f =
    let w = names_at (pre ++ write_name m) (at + length (write_name m)) (suc k) l (simp length-append (omega arith)) i n r e f in
    let v = moved (append_assoc pre (write_name m) (run write_name (take i l))) (append_assoc pre (write_name m) (run write_name l)) w in
    record {
      size = v.size;
      start = v.start;
      behind = v.behind;
      bytes = v.bytes;
      kind_is = v.kind_is;
      group_is = v.group_is ∙ omega arith;
    }

-- ---- names in groups

-- a name is written as `lead` and then its element, and its row says so
module _ {A : Type 0} (write lead inner : A → List ℕ) (kind : A → ℕ) (row : ℕ → ℕ → A → Row)
    (write_is : (a : A) → write a ≡ lead a ++ inner a)
    (row_is : (at number : ℕ) (a : A) → row at number a ≡ record { kind = kind a; start = at + length (lead a); length = length (inner a); group = number }) where
  -- the names of one group, side by side behind `pre`
  members_at : (pre post : List ℕ) (at number : ℕ) (l : List A) → length pre ≡ at
      → (i : ℕ) (m : Member A) (r : Row) → get_elem? (members number l) i ≡ some m → get_elem? (rows_of_members write row at number l) i ≡ some r
      → RowAt ((pre ++ run write (take i l)) ++ lead m.value) (inner m.value) (pre ++ (run write l ++ post)) (kind m.value) m.group r
  unfolding run rows_of_members
  members_at pre post at number [] h i m r e f = absurd (no_some e)
  members_at pre post at number (a ∷ l) h zero m r e f =
      let q = sym (row_is at number a) ∙ some-injective _ r f in
      subst (λ x. RowAt ((pre ++ []) ++ lead x.value) (inner x.value) (pre ++ ((write a ++ run write l) ++ post)) (kind x.value) x.group r) (some-injective _ m e)
      (record {
        size = sym (ap (λ x. x.length) q);
        start = sym (ap (λ x. x.start) q) ∙ simp length-append (omega arith);
        behind = run write l ++ post;
        bytes = ap (λ x. pre ++ ((x ++ run write l) ++ post)) (write_is a) ∙ simp append_assoc;
        kind_is = sym (ap (λ x. x.kind) q);
        group_is = sym (ap (λ x. x.group) q);
      })
  members_at pre post at number (a ∷ l) h (suc i) m r e f =
      moved (simp append_assoc) (simp append_assoc)
      (members_at (pre ++ write a) post (at + length (write a)) number l (simp length-append (omega arith)) i m r e f)

  -- there is one row for each
  members_count : (at number : ℕ) (l : List A) → length (rows_of_members write row at number l) ≡ length l
  unfolding rows_of_members
  members_count at number [] = refl
  members_count at number (a ∷ l) = ap suc (members_count (at + length (write a)) number l)

  members_length : (number : ℕ) (l : List A) → length (members number l) ≡ length l
  members_length number [] = refl
  members_length number (a ∷ l) = ap suc (members_length number l)

  module _ (tag : Group A → ℕ) (write_group : Group A → List ℕ) (is : (g : Group A) → write_group g ≡ element (tag g) (run write g.members)) where
    -- groups side by side behind `pre`, each an element around its names
    groups_at : (pre : List ℕ) (at : ℕ) (gs : List (Group A)) → length pre ≡ at
        → (i : ℕ) (m : Member A) (r : Row) → get_elem? (flat gs) i ≡ some m → get_elem? (rows_of_groups write row at gs) i ≡ some r
        → RowAt ((pre ++ front_in_groups write tag i gs) ++ lead m.value) (inner m.value) (pre ++ run write_group gs) (kind m.value) m.group r
    unfolding run rows_of_groups flat front_in_groups
    groups_at pre at [] h i m r e f = absurd (no_some e)
    groups_at pre at (g ∷ gs) h i m r e f = go (ltb i (length g.members)) refl (λ pre' at' h' i' e' f'. groups_at pre' at' gs h' i' m r e' f')
      where
        -- the groups behind the first
        Behind : Type 0
        Behind =
            (pre' : List ℕ) (at' : ℕ) → length pre' ≡ at' → (i' : ℕ) → get_elem? (flat gs) i' ≡ some m → get_elem? (rows_of_groups write row at' gs) i' ≡ some r
            → RowAt ((pre' ++ front_in_groups write tag i' gs) ++ lead m.value) (inner m.value) (pre' ++ run write_group gs) (kind m.value) m.group r

        content : List ℕ
        content = run write g.members

        behind : List Row
        behind = rows_of_groups write row (at + header content + length content) gs

        own : List Row
        own = rows_of_members write row (at + header content) g.number g.members

        n : length own ≡ length g.members
        n = members_count (at + header content) g.number g.members

        k : length (members g.number g.members) ≡ length g.members
        k = members_length g.number g.members

        z : length (head (tag g) content) ≡ header content
        z = head_length (tag g) content

        written : pre ++ (write_group g ++ run write_group gs) ≡ (pre ++ head (tag g) content) ++ (content ++ run write_group gs)
        written = ap (λ x. pre ++ (x ++ run write_group gs)) (is g ∙ element_parts (tag g) content) ∙ simp append_assoc

        Stands : List ℕ → Type 0
        Stands x = RowAt ((pre ++ x) ++ lead m.value) (inner m.value) (pre ++ (write_group g ++ run write_group gs)) (kind m.value) m.group r

        go : (t : Bool) → ltb i (length g.members) ≡ t → Behind
            → Stands (cond t (head (tag g) content ++ run write (take i g.members)) (element (tag g) content ++ front_in_groups write tag (i - length g.members) gs))
        go true c ih =
            let u = ltb-true i (length g.members) c in
            moved (simp append_assoc) (sym written)
            (members_at (pre ++ head (tag g) content) (run write_group gs) (at + header content) g.number g.members (simp length-append (omega (arith, z))) i m r
            (sym (at_left (members g.number g.members) (flat gs) i (omega (arith, k))) ∙ e) (sym (at_left own behind i (omega (arith, n))) ∙ f))
        go false c ih =
            let u = ltb-false i (length g.members) c in
            let w = ap length (element_parts (tag g) content) ∙ length-append (head (tag g) content) content in
            moved (simp append_assoc) (ap (λ x. (pre ++ x) ++ run write_group gs) (sym (is g)) ∙ append_assoc pre (write_group g) (run write_group gs))
            (ih (pre ++ element (tag g) content) (at + header content + length content) (simp length-append (omega (arith, w, z))) (i - length g.members)
            (ap (λ x. get_elem? (flat gs) (i - x)) (sym k) ∙ sym (at_right (members g.number g.members) (flat gs) i (omega (arith, k))) ∙ e)
            (ap (λ x. get_elem? behind (i - x)) (sym n) ∙ sym (at_right own behind i (omega (arith, n))) ∙ f))

-- ---- kinds

-- byte for byte the same is equal
pub same_refl : (s : List ℕ) → same s s ≡ true
unfolding same
same_refl [] = refl
same_refl (x ∷ s) = simp (eq-eqb x x refl, same_refl s)

-- a test of equal bytes, where they are equal and where they are not
same_cases : (s t : List ℕ) (P : Bool → Type 0) → (s ≡ t → P true) → ((s ≡ t → ⊥) → P false) → P (same s t)
same_cases s t P a b = go (same s t) refl
  where
    go : (c : Bool) → same s t ≡ c → P c
    go true e = a (same_eq s t (rw e tt))
    go false e = b (λ q. let z : true ≡ false = sym (same_refl t) ∙ ap (λ x. same x t) (sym q) ∙ e in true≢false z)

name_kind_lem : (n : GeneralName) → NameKind n (name_kind n)
unfolding name_kind
name_kind_lem (plain t c) = refl
name_kind_lem (other o t c) =
    same_cases o srv_oid (λ b. (o ≡ srv_oid → cond b 9 (0xA0 % 32) ≡ 9) × ((o ≡ srv_oid → ⊥) → cond b 9 (0xA0 % 32) ≡ 0xA0 % 32))
    (λ q. ((λ p. refl), λ p. absurd (p q))) (λ q. ((λ p. absurd (q p)), λ p. refl))

-- a CN's tag, as a test and as three equations
cn_tag_lem : (t : ℕ) (P : Bool → Type 0) → ((t ≡ 0x0C) ⊎ (t ≡ 0x13) ⊎ (t ≡ 0x16) → P true) → (¬ ((t ≡ 0x0C) ⊎ (t ≡ 0x13) ⊎ (t ≡ 0x16)) → P false) → P (cn_tag t)
cn_tag_lem t P a b = go (eqb t 0x0C) (eqb t 0x13) (eqb t 0x16) refl refl refl
  where
    go : (x y z : Bool) → eqb t 0x0C ≡ x → eqb t 0x13 ≡ y → eqb t 0x16 ≡ z → P (x || y || z)
    go true y z e f g = a (inl (eqb-true t 0x0C e))
    go false true z e f g = a (inr (inl (eqb-true t 0x13 f)))
    go false false true e f g = a (inr (inr (eqb-true t 0x16 g)))
    go false false false e f g = b (λ h. ⊎_elim (eqb-false t 0x0C e) (⊎_elim (eqb-false t 0x13 f) (eqb-false t 0x16 g)) h)

attribute_kind_lem : (a : Attribute) → AttributeKind a (attribute_kind a)
unfolding attribute_kind is_cn
attribute_kind_lem a =
    same_cases a.oid cn_oid (λ b. Says (cond b (cond (cn_tag a.tag) 10 11) 12))
    (λ q. cn_tag_lem a.tag (λ t. Says (cond t 10 11)) (λ h. ((λ p k. refl), (λ p k. absurd (k h)), λ p. absurd (p q))) (λ h. ((λ p k. absurd (h k)), (λ p k. refl), λ p. absurd (p q))))
    (λ q. ((λ p k. absurd (q p)), (λ p k. absurd (q p)), λ p. refl))
  where
    Says : ℕ → Type 0
    Says kind = AttributeKind a kind

-- ---- the three strings

-- a row of a string that is one element of tag 30, as the statement says it
row_of : (S : CertificateString) (b : List ℕ) (l : List S.Name) (i : ℕ) (n : S.Name) (r : Row) (content : List ℕ) {kind group : ℕ}
    → b ≡ element 0x30 content → RowAt (S.front l i n) (S.element n) (head 0x30 content ++ content) kind group r → S.Kind n kind → group ≡ S.group i n
    → RowOf S b l i n r
row_of S b l i n r content w a k g = record {
  length_is = a.size;
  start_is = a.start;
  behind = a.behind;
  bytes_are = w ∙ element_parts 0x30 content ∙ a.bytes;
  kind_is = subst (S.Kind n) (sym a.kind_is) k;
  group_is = a.group_is ∙ g;
}

-- what the statement says of each row of a string
abbrev pub Rows : CertificateString → Type 0
Rows S =
    (b : List ℕ) (l : List S.Name) → Writes S.input.grammar l b
    → (i : ℕ) (n : S.Name) (r : Row) → get_elem? l i ≡ some n → get_elem? (S.input.grammar.rows l) i ≡ some r → RowOf S b l i n r

-- an entry's row
pub san_row : (l : List GeneralName) (i : ℕ) (n : GeneralName) (r : Row) → get_elem? l i ≡ some n → get_elem? (san_grammar.rows l) i ≡ some r
    → RowAt (san_string.front l i n) (write_name n) (head 0x30 (run write_name l) ++ run write_name l) (name_kind n) (0 + i) r
san_row l i n r e f =
    let c = run write_name l in
    names_at (head 0x30 c) (header c) 0 l (head_length 0x30 c) i n r e f

pub san_rows_lem : Rows san_string
san_rows_lem b l w i n r e f = row_of san_string b l i n r (run write_name l) w.bytes_are (san_row l i n r e f) (name_kind_lem n) (omega arith)

attribute_row_lem : (at number : ℕ) (a : Attribute) → attribute_row at number a ≡ record { kind = attribute_kind a; start = at + length {A = ℕ} []; length = length (write_attribute a); group = number }
unfolding attribute_row
attribute_row_lem at number a =
    let z : at ≡ at + 0 = omega arith in
    λ k. record { kind = attribute_kind a; start = z k; length = length (write_attribute a); group = number }

-- an attribute's row
pub subject_row : (l : List (Member Attribute)) (i : ℕ) (m : Member Attribute) (r : Row) → get_elem? l i ≡ some m → get_elem? (subject_grammar.rows l) i ≡ some r
    → RowAt (subject_string.front l i m) (write_attribute m.value) (head 0x30 (run write_set (groups l)) ++ run write_set (groups l)) (attribute_kind m.value) m.group r
unfolding write_set
subject_row l i m r e f =
    let c = run write_set (groups l) in
    moved (append-nil _) refl
    (groups_at write_attribute (λ a. []) write_attribute attribute_kind attribute_row (λ a. refl) attribute_row_lem (λ g. 0x31) write_set (λ g. refl)
    (head 0x30 c) (header c) (groups l) (head_length 0x30 c) i m r (ap (λ x. get_elem? x i) (flat_groups l) ∙ e) f)

pub subject_rows_lem : Rows subject_string
subject_rows_lem b l w i m r e f = row_of subject_string b l i m r (run write_set (groups l)) w.bytes_are (subject_row l i m r e f) (attribute_kind_lem m.value) refl

subtree_row_lem : (at number : ℕ) (n : GeneralName) → subtree_row at number n ≡ record { kind = name_kind n; start = at + length (head 0x30 (write_name n)); length = length (write_name n); group = number }
unfolding subtree_row header
subtree_row_lem at number n = refl

subtree_parts : (n : GeneralName) → write_subtree n ≡ head 0x30 (write_name n) ++ write_name n
unfolding write_subtree
subtree_parts n = element_parts 0x30 (write_name n)

pub constraints_rows_lem : Rows constraints_string
unfolding write_side
constraints_rows_lem b l w i m r e f =
    let c = run write_side (groups l) in
    row_of constraints_string b l i m r c w.bytes_are
    (moved (append_assoc (head 0x30 c) _ _) refl
    (groups_at write_subtree (λ n. head 0x30 (write_name n)) write_name name_kind subtree_row subtree_parts subtree_row_lem (λ g. 0xA0 + g.number) write_side (λ g. refl)
    (head 0x30 c) (header c) (groups l) (head_length 0x30 c) i m r (ap (λ x. get_elem? x i) (flat_groups l) ∙ e) f))
    (name_kind_lem m.value) refl
