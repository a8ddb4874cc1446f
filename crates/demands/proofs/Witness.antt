-- The witness's text: the part of the certificate's bytes that is handed back is the text that matched.
use Prim.Native.Nat.{ℕ, ◌+◌, ◌-◌, ◌≤◌}
use mathlib.Core.Path.{◌≡◌, refl, sym, ap, subst, ◌∙◌}
use mathlib.Core.Logic.{◌≢◌, inl, inr}
use mathlib.Core.Bool.{Bool, true, false, cond, ◌&&◌}
use mathlib.Core.Option.{some, get_or, some-injective}
use mathlib.Core.List.{List, [], ◌++◌, append_assoc}
use native.Mathlib.Omega.{arith}
use lib.ListN.{length, take, drop, get_elem?, length-append}
use lib.Seq.{take_at, drop_at}
use lib.Dec.{T, eqb}
use borrow.Author.Tests.{eqb-true, eqb-false}
use Rattle.rules.specs.Bytes.{part}
use Rattle.rules.specs.Numbers.{dns_kind, srv_kind, uri_kind, cn_kind}
use Rattle.rules.specs.Records.{Reference}
use Rattle.rules.specs.Der.{Member, element}
use Rattle.rules.specs.San.{GeneralName, srv_oid, tag_of, content_of, write_name}
use Rattle.rules.specs.Subject.{Attribute, write_attribute, is_cn, cn_tag}
use Rattle.rules.specs.Seen.{san_input, subject_input, Reads}
use Rattle.rules.specs.Matching.{Presented, matches, text_matches, tagged_text, srv_text, entry_text, sole_cn, cn_text}
use Rattle.rules.specs.Verdict.{text_of, text_place, past, witness_of, numbers_of, verdict_of, witness_part, witness_text, witness_place}
use Rattle.rules.specs.declared.Row.{Row}
use Rattle.rules.specs.declared.Outcome.{Outcome}
use Rattle.rules.specs.declared.Outcome.TheVariants.{Refused, Broken, Matched, Mismatched}
use Rattle.reading.specs.Answers.{no_some}
use Rattle.reading.specs.Calls.{Inputs, outcome_on, verdict_on, witness_text_on, witness_part_on, witness_place_on}
use Rattle.reading.specs.Ends.{EndsIn, ends_append, ends_element, ends_self}
use Rattle.demands.specs.Statements.{Names, Read, MatchesAt, PairAt, First, Reported, san_string, subject_string}
use Rattle.demands.proofs.Places.{san_rows_lem, subject_rows_lem}
use Rattle.demands.proofs.Texts.{tagged_is, srv_is, some_passes}
use Rattle.demands.proofs.Presented.{entry_is, attribute_is}
use Rattle.demands.proofs.Judged.{Judged, broken, matched, mismatched, pair_of}
use Rattle.demands.proofs.Verdicts.{answer, is_broken, is_matched, is_mismatched, judged_on}

-- ---- a text at the end of an element

-- where a text is that ends an element, by the element's row
module _ (b e t : List ℕ) (front behind : List ℕ) (r : Row) (size : r.length ≡ length e) (start : r.start ≡ length front) (bytes : b ≡ front ++ (e ++ behind)) (h : EndsIn e t) where
  pub text_size : length t ≤ r.length
  text_size = let n = size ∙ ap length h.is ∙ length-append h.front t in omega arith

  pub text_part : part b (r.start + r.length - length t) (length t) ≡ t
  unfolding part
  text_part =
      let n = size ∙ ap length h.is ∙ length-append h.front t in
      let m : length (front ++ h.front) ≡ r.start + r.length - length t = length-append front h.front ∙ omega arith in
      let k : b ≡ (front ++ h.front) ++ (t ++ behind) = bytes ∙ ap (λ x. front ++ (x ++ behind)) h.is ∙ simp append_assoc in
      ap (λ x. take (length t) (drop (r.start + r.length - length t) x)) k
      ∙ ap (take (length t)) (drop_at (front ++ h.front) (t ++ behind) (r.start + r.length - length t) m)
      ∙ take_at t behind (length t) refl

-- ---- the texts of names stand at the end

-- the content of an entry
plain_ends : (tag : ℕ) (n : GeneralName) (t : List ℕ) → tagged_text tag n ≡ some t → EndsIn (write_name n) t
unfolding write_name tag_of content_of
plain_ends tag n t e = rw ((tagged_is tag n t).0 e) (ends_element tag (ends_self t))

-- the IA5String of an SRVName
srv_ends : (n : GeneralName) (t : List ℕ) → srv_text n ≡ some t → EndsIn (write_name n) t
unfolding write_name tag_of content_of
srv_ends n t e =
    let h = (srv_is n t).0 e in
    rw h.1 (ends_element 0xA0 (ends_append (element 0x06 srv_oid) (ends_element 0xA0 (ends_element h.0 (ends_self t)))))

-- of each kind
entry_ends : (kind : ℕ) (n : GeneralName) (t : List ℕ) → entry_text kind n ≡ some t → EndsIn (write_name n) t
unfolding entry_text
entry_ends kind n t e = go (eqb kind dns_kind) (eqb kind srv_kind) (eqb kind uri_kind) refl refl refl
  where
    go : (x y z : Bool) → eqb kind dns_kind ≡ x → eqb kind srv_kind ≡ y → eqb kind uri_kind ≡ z → EndsIn (write_name n) t
    go true y z f g h = plain_ends 0x82 n t (rw f at e)
    go false true z f g h = srv_ends n t (rw (f, g) at e)
    go false false true f g h = plain_ends 0x86 n t (rw (f, g, h) at e)
    go false false false f g h = absurd (no_some (rw (f, g, h) at e))

-- the value of a CN
cn_ends : (subject : List (Member Attribute)) (a : Member Attribute) (t : List ℕ) → cn_text subject a ≡ some t → EndsIn (write_attribute a.value) t
unfolding cn_text write_attribute
cn_ends subject a t e = go (is_cn a.value && cn_tag a.value.tag && sole_cn subject a.group) refl
  where
    c : List ℕ
    c = a.value.content

    go : (b : Bool) → (is_cn a.value && cn_tag a.value.tag && sole_cn subject a.group) ≡ b → EndsIn (write_attribute a.value) t
    go true f =
        let q : c ≡ t = some-injective c t (rw f at e) in
        ends_element 0x30 (ends_append (element 0x06 a.value.oid) (ends_element a.value.tag (subst (λ x. EndsIn x t) (sym q) (ends_self t))))
    go false f = absurd (no_some (rw f at e))

-- ---- the witness

-- a name that matches presents a text
text_some : (r : Reference) (p : Presented) → T (matches r p) → (t : List ℕ) × (p.text ≡ some t)
unfolding matches
text_some r p h = let s = (some_passes p.text (text_matches r)).0 h in (s.0, s.1)

-- a presented identifier's text lies in these bytes, and ends where its element ends
pub record Lies (b : List ℕ) (p : Presented) : Type 0 where
  pub text_is : p.text ≡ some (part b (text_place p).start (text_place p).length)
  pub part_is : part b (text_place p).start (text_place p).length ≡ text_of p
  pub ends : (text_place p).start + (text_place p).length ≡ p.row.start + p.row.length

-- so it does where the row is that of its element
lies : (b e t front behind : List ℕ) (p : Presented) → p.text ≡ some t
    → p.row.length ≡ length e → p.row.start ≡ length front → b ≡ front ++ (e ++ behind) → EndsIn e t → Lies b p
lies b e t front behind p q size start bytes h =
    let k : text_of p ≡ t = ap (λ o. get_or o []) q in
    let n = ap length k in
    let c = text_size b e t front behind p.row size start bytes h in
    let w = ap (λ x. part b (p.row.start + p.row.length - length x) (length x)) k ∙ text_part b e t front behind p.row size start bytes h in
    record { text_is = q ∙ ap some (sym w); part_is = w ∙ sym k; ends = omega arith }

module _ (s : Inputs) (l : Names) (read : Read s l) (r : Reference) (j : ℕ) (m : MatchesAt l r j) where
  abbrev t : List ℕ
  t = (text_some r m.presented m.matched).0

  q : m.presented.text ≡ some t
  q = (text_some r m.presented m.matched).1

  -- a text of an entry lies in the SAN, one of a CN in the subject
  in_san : r.kind ≢ cn_kind → Lies s.san m.presented
  in_san h = go read.san_is.1
    where
      go : Reads san_input s.san l.san → Lies s.san m.presented
      go (inr absent) = absurd (no_some (subst (λ x. get_elem? x j ≡ some (entry_is l r j h m).name) absent.2 (entry_is l r j h m).name_at_lem))
      go (inl w) =
          let i = entry_is l r j h m in
          let c = san_rows_lem s.san l.san w j i.name m.presented.row i.name_at_lem i.row_at in
          lies s.san (write_name i.name) t (san_string.front l.san j i.name) c.behind m.presented q c.length_is c.start_is c.bytes_are
          (entry_ends r.kind i.name t (sym i.text_is ∙ q))

  in_subject : r.kind ≡ cn_kind → Lies s.subject m.presented
  in_subject h = go read.subject_is.1
    where
      go : Reads subject_input s.subject l.subject → Lies s.subject m.presented
      go (inr absent) = absurd absent.0
      go (inl w) =
          let i = attribute_is l r j h m in
          let c = subject_rows_lem s.subject l.subject w j i.name m.presented.row i.name_at_lem i.row_at in
          lies s.subject (write_attribute i.name.value) t (subject_string.front l.subject j i.name) c.behind m.presented q c.length_is c.start_is c.bytes_are
          (cn_ends l.subject i.name t (sym i.text_is ∙ q))

  pub text_lies : Lies (cond (eqb r.kind cn_kind) s.subject s.san) m.presented
  text_lies = go (eqb r.kind cn_kind) refl
    where
      go : (b : Bool) → eqb r.kind cn_kind ≡ b → Lies (cond b s.subject s.san) m.presented
      go true e = in_subject (eqb-true _ _ e)
      go false e = in_san (eqb-false _ _ e)

-- what is reported of a pair
reported : (s : Inputs) {l : Names} {i j : ℕ} (p : PairAt l i j) → outcome_on s ≡ Matched (witness_of (pair_of p))
    → Lies (cond (eqb p.reference.kind cn_kind) s.subject s.san) p.match.presented → Reported s i p.reference p.match.presented
unfolding witness_text_on witness_part_on witness_place_on witness_text witness_part witness_place witness_of
reported s {l} {i} {j} p e h =
    let b = cond (eqb p.reference.kind cn_kind) s.subject s.san in
    let place = text_place p.match.presented in
    let text : witness_text_on s ≡ part b place.start place.length = ap (witness_text s.san s.subject) e in
    let at : witness_part_on s ≡ place = ap witness_part e in
    record {
      numbers_are = is_matched s p e;
      text_is = h.text_is ∙ ap some (sym text);
      part_is = ap (λ x. part b x.start x.length) at ∙ sym text;
      place_is = λ san subject. ap (witness_place san subject) e ∙ ap (λ x. past (cond (eqb p.reference.kind cn_kind) subject san) x.start) (sym at);
      length_is = ap (λ x. x.length) at ∙ sym (ap length (text ∙ h.part_is));
      ends = ap (λ x. x.start + x.length) at ∙ h.ends;
    }

-- the first pair, and what is reported of it
pub first_pair_lem :
    (s : Inputs) (l : Names) → Read s l → (verdict_on s).answer ≡ 0
    → (i : ℕ) × (j : ℕ) × (pair : PairAt l i j) × First l i j × Reported s i pair.reference pair.match.presented
first_pair_lem s l read a = go (judged_on s l read)
  where
    go : Judged l (outcome_on s)
        → (i : ℕ) × (j : ℕ) × (pair : PairAt l i j) × First l i j × Reported s i pair.reference pair.match.presented
    go (broken k i b f e) = let z = answer (is_broken s e) in absurd (omega arith)
    go (mismatched u n e) = let z = answer (is_mismatched s e) in absurd (omega arith)
    go (matched u i j p f e) = (i, j, p, f, reported s p e (text_lies s l read p.reference j p.match))

-- ---- no witness

-- no outcome but a match has a text, and its place is the SAN's
none_of : (o : Outcome) → (numbers_of o).answer ≢ 0 → (san subject : List ℕ)
    → (witness_text san subject o ≡ []) × (witness_part o ≡ record { start = 0; length = 0 }) × ((at at' : ℕ × ℕ) → witness_place at at' o ≡ at)
unfolding numbers_of witness_text witness_part witness_place
none_of (Refused n) h san subject = (refl, refl, λ at at'. refl)
none_of (Broken b) h san subject = (refl, refl, λ at at'. refl)
none_of (Matched w) h san subject = absurd (h refl)
none_of Mismatched h san subject = (refl, refl, λ at at'. refl)

pub no_witness :
    (s : Inputs) → (verdict_on s).answer ≢ 0
    → (witness_text_on s ≡ []) × (witness_part_on s ≡ record { start = 0; length = 0 }) × ((san subject : ℕ × ℕ) → witness_place_on s san subject ≡ san)
unfolding verdict_on verdict_of outcome_on witness_text_on witness_part_on witness_place_on
no_witness s h = none_of (outcome_on s) h s.san s.subject
