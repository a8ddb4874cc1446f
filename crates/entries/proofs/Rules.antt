-- What the tests of a GeneralName's own rules return, by their own tests.
use Prim.Native.Nat.{ℕ, ◌-◌, ◌≤◌}
use mathlib.Core.Path.{◌≡◌, refl, sym, ap, ◌∙◌}
use mathlib.Core.Bool.{Bool, true, false, cond, not, ◌&&◌, ◌||◌}
use mathlib.Core.Option.{some}
use mathlib.Core.List.{List, [], ◌∷◌}
use native.Mathlib.Omega.{arith}
use lib.ListN.{length, take, drop}
use lib.Dec.{eqb}
use lib.Seq.{slice}
use borrow.Author.Tests.{ne_eqb}
use Rattle.rules.specs.Bytes.{some?, same, ascii}
use Rattle.rules.specs.San.{GeneralName, plain, other, srv_oid, text_tag, sealed_tag, sealed, good_oid, good_value, good_srv_name, good_name, name_kind}
use Rattle.reading.specs.Reader.{when, is_some, Raw, raw}
use Rattle.reading.specs.Strings.{read_other, name_of, read_name}
use Rattle.reading.specs.Answers.{then_some, is_true}
use Rattle.reading.proofs.Codecs.{other_c}
use Rattle.der.specs.Reads.{part_is}
use Rattle.entries.specs.Entries.{text_tag_of, text_of, other_at, name_at, good_name_at}
use Rattle.entries.specs.Texts.{NamedAt, named, not_named}
use Rattle.entries.specs.declared.Name.{Name}
use Rattle.entries.specs.declared.Unreadable.{Unreadable}
use Rattle.std.specs.Prelude.{Result, Ok, Err}
use Rattle.entries.proofs.Shapes.{shape_other}

-- ---- tags

module _ (t : ℕ) where
  pub sealed_87 : t ≡ 0x87 → true ≡ sealed_tag t
  sealed_87 e = rw e

  pub sealed_88 : t ≡ 0x88 → true ≡ sealed_tag t
  sealed_88 e = rw e

  pub sealed_a3 : t ≡ 0xA3 → true ≡ sealed_tag t
  sealed_a3 e = rw e

  pub sealed_a4 : t ≡ 0xA4 → true ≡ sealed_tag t
  sealed_a4 e = rw e

  pub sealed_a5 : (t ≡ 0x87 → ⊥) → (t ≡ 0x88 → ⊥) → (t ≡ 0xA3 → ⊥) → (t ≡ 0xA4 → ⊥) → eqb t 0xA5 ≡ sealed_tag t
  sealed_a5 e f g h = rw (ne_eqb t 0x87 e, ne_eqb t 0x88 f, ne_eqb t 0xA3 g, ne_eqb t 0xA4 h)

-- ---- the text of an SRVName

module _ (t : ℕ) (text : List ℕ) where
  pub srv_tag : (t ≡ 0x16 → ⊥) → false ≡ good_srv_name t text
  unfolding good_srv_name
  srv_tag e = rw (ne_eqb t 0x16 e)

  module _ (e : t ≡ 0x16) where
    pub srv_empty : length text ≡ 0 → false ≡ good_srv_name t text
    unfolding good_srv_name
    srv_empty f = rw e (go text f)
      where
        go : (l : List ℕ) → length l ≡ 0 → false ≡ (some? l && ascii l)
        go [] f = refl
        go (x ∷ l) f = absurd (omega arith)

    pub srv_ascii : (length text ≡ 0 → ⊥) → ascii text ≡ good_srv_name t text
    unfolding good_srv_name
    srv_ascii f = rw e (go text f)
      where
        go : (l : List ℕ) → (length l ≡ 0 → ⊥) → ascii l ≡ (some? l && ascii l)
        go [] f = absurd (f refl)
        go (x ∷ l) f = refl

-- ---- a GeneralName

is_some_when : {A : Type 0} (t : Bool) (a : A) → is_some (when t (some a)) ≡ t
is_some_when true a = refl
is_some_when false a = refl

pub good_is : (x : Raw) (n : GeneralName) → name_of x ≡ some n → is_some (read_name x) ≡ good_name n
unfolding read_name
good_is x n e = rw e (is_some_when (good_name n) n)

module _ (s : List ℕ) (start end : ℕ) (h : start ≤ end) (fits : end ≤ length s) (n : Result Name Unreadable) (n_is : n ≡ other_at s start end) where
  shape : n ≡ name_at s 0xA0 start end
  shape = shape_other s 0xA0 start end h fits refl n n_is

  pub good_malformed : (gone : Unreadable) → n ≡ Err gone → false ≡ good_name_at s 0xA0 start end
  unfolding good_name_at read_name
  good_malformed gone e = rw (not_named s start end h fits 0xA0 (sym shape ∙ e))

  module _ (m : Name) (found : n ≡ Ok m) where
    is_named : NamedAt s start end h fits 0xA0 m.kind m.tag m.text
    is_named = named s start end h fits 0xA0 m (sym shape ∙ found)

    pub text_fits : m.text ≤ end
    text_fits = is_named.text_is.within

    -- the rules of an otherName, by whether it is an SRVName
    rules : (r : Bool) → ((o : List ℕ) (t : ℕ) (c : List ℕ) → m.kind ≡ name_kind (other o t c) → m.tag ≡ t → c ≡ slice m.text end s → r ≡ (not (same o srv_oid) || good_srv_name t c)) → r ≡ good_name_at s 0xA0 start end
    unfolding good_name_at name_of good_name text_tag_of text_of
    rules r f =
        let d = is_named in
        then_some (read_other (slice start end s)) _ d.reads λ p q e.
        let w : d.name ≡ other p.0 p.1.tag p.1.content = cc in
        let g = is_true (good_oid p.0 && good_value p.1.tag p.1.content) (other_c.sound (slice start end s) q).0 in
        f p.0 p.1.tag p.1.content (d.kind_is ∙ ap name_kind w) (d.tag_is ∙ ap text_tag_of w) (sym (ap text_of w) ∙ d.text_is.text_is)
        ∙ rw (good_is (raw 0xA0 (slice start end s)) d.name d.reads, w) (rw g)

    pub good_srv_is : m.kind ≡ 9 → (r : Bool) → r ≡ good_srv_name m.tag (take (end - m.text) (drop m.text s)) → r ≡ good_name_at s 0xA0 start end
    unfolding name_kind
    good_srv_is e r r_is = rules r (λ o t c p q w. r_is ∙ rw (part_is s m.text end is_named.text_is.within, q, ← w) (go (same o srv_oid) (sym p ∙ e)))
      where
        go : {v : Bool} (b : Bool) → ◌≡◌ {A = ℕ} (cond b 9 0) 9 → v ≡ (not b || v)
        go true f = refl
        go false f = absurd (omega arith)

    pub good_other_is : (m.kind ≡ 9 → ⊥) → true ≡ good_name_at s 0xA0 start end
    unfolding name_kind
    good_other_is e = rules true (λ o t c p q w. go (good_srv_name t c) (same o srv_oid) (λ z. e (p ∙ z)))
      where
        go : (v b : Bool) → (◌≡◌ {A = ℕ} (cond b 9 0) 9 → ⊥) → true ≡ (not b || v)
        go v true f = absurd (f refl)
        go v false f = refl

pub good_other_tag : (s : List ℕ) (t start end : ℕ) → t ≡ 0xA0 → (r : Bool) → r ≡ good_name_at s 0xA0 start end → r ≡ good_name_at s t start end
good_other_tag s t start end e r r_is = r_is ∙ rw e

pub good_part : (s : List ℕ) (t start end : ℕ) → start ≤ end → (r : Bool) → r ≡ is_some (read_name (raw t (take (end - start) (drop start s)))) → r ≡ good_name_at s t start end
unfolding good_name_at
good_part s t start end h r r_is = r_is ∙ rw (part_is s start end h)

module _ (t : ℕ) (c : List ℕ) (ne : t ≡ 0xA0 → ⊥) where
  plain_is : is_some (read_name (raw t c)) ≡ ((text_tag t && ascii c) || (sealed_tag t && true))
  unfolding name_of good_name sealed
  plain_is = good_is (raw t c) (plain t c) (rw (ne_eqb t 0xA0 ne, name_of))

  module _ (b : Bool) (b_is : b ≡ sealed_tag t) where
    pub good_sealed : b ≡ true → true ≡ is_some (read_name (raw t c))
    good_sealed e = rw (plain_is, ← b_is, e) (go (text_tag t && ascii c))
      where
        go : (v : Bool) → true ≡ (v || true)
        go true = refl
        go false = refl

    module _ (not_sealed : b ≡ false) (d : Bool) (d_is : d ≡ text_tag t) where
      pub good_text : d ≡ true → (r : Bool) → r ≡ ascii c → r ≡ is_some (read_name (raw t c))
      good_text e r r_is = r_is ∙ rw (plain_is, ← b_is, not_sealed, ← d_is, e) (go (ascii c))
        where
          go : (v : Bool) → v ≡ (v || false)
          go true = refl
          go false = refl

      pub good_unknown : d ≡ false → false ≡ is_some (read_name (raw t c))
      good_unknown e = rw (plain_is, ← b_is, not_sealed, ← d_is, e)
