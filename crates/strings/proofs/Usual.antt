-- What the tests of the usual name and of the usual set return, and how a loop goes on behind one.
use Prim.Native.Nat.{ℕ, ◌+◌, ◌-◌, ◌%◌, ◌≤◌, ◌<◌}
use mathlib.Core.Path.{◌≡◌, refl, sym, ap, ◌∙◌}
use mathlib.Core.Bool.{Bool, true, false, true≢false}
use mathlib.Core.List.{List}
use native.Mathlib.Omega.{arith}
use lib.ListN.{length, get_or, take, drop}
use lib.Seq.{slice_empty}
use Rattle.std.specs.Prelude.{Option, Some, IfSome, Ok}
use Rattle.std.specs.Bool.{then_some}
use Rattle.rules.specs.Bytes.{same, up_to}
use Rattle.rules.specs.Subject.{cn_oid}
use Rattle.der.specs.Places.{found, element_at}
use Rattle.der.specs.Reads.{Read, found_read}
use Rattle.der.specs.declared.Element.{Element}
use Rattle.der.proofs.Elements.{short_element, tagged_same, value_good}
use Rattle.entries.specs.Entries.{kind_by, attribute_at, good_name_at}
use Rattle.entries.specs.declared.Name.{Name}
use Rattle.entries.proofs.Shapes.{attribute_is}
use Rattle.strings.specs.Counts.{Count, names_on, order_at, set_at, sets_on}
use Rattle.strings.specs.Usual.{Sufficient, Short, UsualName, UsualAttribute, UsualSet}
use Rattle.strings.proofs.Counting.{names_next, set_start, set_end, set_next, sets_next}

-- ---- the tests

pub unusual : (A : Type 0) → Sufficient false A
unfolding Sufficient
unusual A e = absurd (true≢false (sym e))

-- a test that decides whether a place is answered
tested : (r : Bool) (n : ℕ) (A : ℕ → Type 0) → (r ≡ true → A n) → IfSome (then_some r n) A
tested true n A h = h refl
tested false n A h = tt

pub usual_name_is : (s : List ℕ) (at end : ℕ) → at ≤ end → end ≤ length s → 34 ≤ end - at → get_or s at 0 ≡ 0x82
    → (n : ℕ) → n ≡ get_or s (at + 1) 0 → 16 ≤ n → n ≤ 32
    → (r : Bool) → r ≡ good_name_at s 0x82 (at + 2) (at + 2 + n) → IfSome (then_some r (at + 2 + n)) (UsualName s at end)
usual_name_is s at end h fits room tag n n_is least most r r_is = tested r (at + 2 + n) _ λ e. record {
  element = short_element s at end (omega arith) fits n n_is (omega arith) (omega arith) ∙ (λ i. found (tag i) (at + 2) (at + 2 + n));
  holds = sym r_is ∙ e;
}

-- an OID element and a value element, one behind the other, fill the content of an attribute
pub usual_attribute_is : (s : List ℕ) (start end : ℕ) → start ≤ end → end ≤ length s → end < start + 128 → get_or s start 0 ≡ 0x06
    → (o : ℕ) → o ≡ get_or s (start + 1) 0 → (o ≡ 0 → ⊥) → o + 4 ≤ end - start → (get_or s (start + 2 + o) 0 % 32 ≡ 31 → ⊥)
    → (t : ℕ) → t ≡ get_or s (start + 3 + o) 0 → o + t + 4 ≡ end - start → Sufficient true (UsualAttribute s start end)
unfolding Sufficient
usual_attribute_is s start end h fits few tag o o_is some room good t t_is all e =
    let next = start + 2 + o in
    let first = short_element s start end (omega arith) fits o o_is (omega arith) (omega arith) in
    let a : Element = record { tag = get_or s start 0; start = start + 2; next = next } in
    let oid = tagged_same s start end _ (sym first) 0x06 a refl tag in
    let place : start + 3 + o ≡ next + 1 = omega arith in
    let second = short_element s next end (omega arith) fits t (t_is ∙ ap (λ i. get_or s i 0) place) (omega arith) (omega arith) in
    let b : Element = record { tag = get_or s next 0; start = next + 2; next = next + 2 + t } in
    let value = value_good s next end _ (sym second) b refl good in
    record {
      name = record { kind = kind_by (same (take (next - (start + 2)) (drop (start + 2) s)) cn_oid) (get_or s next 0); tag = get_or s next 0; text = next + 2 };
      named = sym (attribute_is s 0x30 end fits start h refl _ oid a refl (λ q. some (omega (arith, q))) _ value b refl (omega arith) _ refl _ refl);
    }

-- a set of one attribute
one_attribute : (s : List ℕ) (b c n : ℕ) (m : Name) → b < n → n ≤ length s → element_at s b n ≡ found 0x30 c n → attribute_at s 0x30 c n ≡ Ok m → set_at s b n ≡ Ok 1
unfolding order_at up_to
one_attribute s b c n m u fits e a =
    let none : true ≡ order_at s b b b n = rw (slice_empty b s) in
    let start = set_start s b n (omega arith) fits (λ z. omega (arith, z)) in
    let next = set_next s (set_at s b n) b 0 b n start (omega arith) fits u _ (sym e) (record { tag = 0x30; start = c; next = n }) refl _ (sym a) m refl true none refl in
    sym (set_end s (set_at s b n) b 1 n n next (omega arith) fits (omega arith))

pub usual_set_is : (s : List ℕ) (at end : ℕ) → at ≤ end → end ≤ length s → 9 ≤ end - at → get_or s at 0 ≡ 0x31
    → (n : ℕ) → n ≡ get_or s (at + 1) 0 → n < 128 → n + 2 ≤ end - at → get_or s (at + 2) 0 ≡ 0x30
    → (m : ℕ) → m ≡ get_or s (at + 3) 0 → m + 2 ≡ n
    → (r : Bool) → Sufficient r (UsualAttribute s (at + 4) (at + 2 + n)) → IfSome (then_some r (at + 2 + n)) (UsualSet s at end)
unfolding Sufficient
usual_set_is s at end h fits room tag n n_is short within inner m m_is size r shows =
    let last = at + 2 + n in
    let place : at + 3 ≡ at + 2 + 1 = omega arith in
    let four : at + 2 + 2 ≡ at + 4 = omega arith in
    let full : at + 2 + 2 + m ≡ last = omega arith in
    let there = short_element s (at + 2) last (omega arith) (omega arith) m (m_is ∙ ap (λ i. get_or s i 0) place) (omega arith) (omega arith) in
    tested r last _ λ e.
    let a = shows e in
    record {
      element = short_element s at end (omega arith) fits n n_is short (omega arith) ∙ (λ i. found (tag i) (at + 2) last);
      holds = one_attribute s (at + 2) (at + 4) last a.name (omega arith) (omega arith) (there ∙ (λ i. found (inner i) (four i) (full i))) a.named;
    }

-- ---- the loop

module _ (s : List ℕ) (at end : ℕ) (h : at ≤ end) (fits : end ≤ length s) (t : ℕ) (A : ℕ → Type 0) (usual : Option ℕ)
    (shows : IfSome usual (Short s at end t A)) (next : ℕ) (is : usual ≡ Some next) where
  here : Short s at end t A next
  here = rw is at shows

  did : Read s at end t (at + 2) next
  did = found_read s end fits at h (record { tag = t; start = at + 2; next = next }) here.element

  pub usual_within : next ≤ end
  usual_within = did.rest

  pub usual_less : end - next < end - at
  usual_less = omega (arith, did.body, did.rest)

  pub usual_count : (k : ℕ) → k ≤ at → k + 1 ≤ next
  usual_count k u = omega (arith, did.body)

module _ (s : List ℕ) (all : Count) (k at end : ℕ) (h : at ≤ end) (fits : end ≤ length s) (u : at < end) (usual : Option ℕ) (next : ℕ) (is : usual ≡ Some next) where
  pub usual_names : all ≡ names_on s k at end → IfSome usual (UsualName s at end) → all ≡ names_on s (k + 1) next end
  usual_names inv shows =
      let a : UsualName s at end next = rw is at shows in
      names_next s all k at end inv h fits u _ (sym a.element) (record { tag = 0x82; start = at + 2; next = next }) refl true (sym a.holds) refl

  pub usual_sets : all ≡ sets_on s k at end → IfSome usual (UsualSet s at end) → all ≡ sets_on s (k + 1) next end
  usual_sets inv shows =
      let a : UsualSet s at end next = rw is at shows in
      let e : Element = record { tag = 0x31; start = at + 2; next = next } in
      let there = tagged_same s at end _ (sym a.element) 0x31 e refl refl in
      sets_next s all k at end inv h fits u _ there e refl _ (sym a.holds) 1 refl
