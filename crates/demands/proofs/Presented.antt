-- The presented identifiers of each kind: which names they are, their rows, and what matches.
use Prim.Native.Nat.{ℕ, zero, suc}
use mathlib.Core.Path.{◌≡◌, refl, sym, ap, subst, ◌∙◌}
use mathlib.Core.Logic.Iff
use mathlib.Core.Logic.{◌↔◌, ◌≢◌}
use mathlib.Core.Bool.{Bool, true, false, true≢false}
use mathlib.Core.Option.{Option, some, some-injective}
use mathlib.Core.List.{List, [], ◌∷◌}
use native.Mathlib.Omega.{arith}
use lib.ListN.{length, get_elem?}
use lib.Dec.{T}
use borrow.Author.Tests.{ne_eqb}
use Rattle.rules.specs.Bytes.{any}
use Rattle.rules.specs.Numbers.{dns_kind, srv_kind, uri_kind, cn_kind}
use Rattle.rules.specs.Names.{dns_matches, srv_matches, uri_matches}
use Rattle.rules.specs.Records.{Reference}
use Rattle.rules.specs.Der.{Member}
use Rattle.rules.specs.San.{GeneralName, plain, other, srv_oid, san_grammar}
use Rattle.rules.specs.Subject.{Attribute, is_cn, cn_tag, subject_grammar}
use Rattle.rules.specs.Matching.{Presented, presented_in, presented_to, matches, if_some, text_matches, tagged_text, srv_text, entry_text, cn_text, sole_cn, blocks_cn}
use Rattle.rules.specs.declared.Row.{Row}
use Rattle.reading.specs.Answers.{no_some}
use Rattle.reading.proofs.OneReading.{san_reading, subject_reading}
use Rattle.demands.specs.Statements.{Names, MatchesAt, Kinds}
use Rattle.demands.proofs.Places.{san_row, subject_row}
use Rattle.demands.proofs.Texts.{tagged_is, srv_is, some_passes}

-- ---- names beside their rows

module _ {A : Type 0} (text : A → Option (List ℕ)) where
  -- what a presented identifier is: the name at j and its row
  pub record Is (rows : List Row) (names : List A) (j : ℕ) (p : Presented) : Type 0 where
    pub name : A
    pub name_at_lem : get_elem? names j ≡ some name
    pub row_at : get_elem? rows j ≡ some p.row
    pub text_is : p.text ≡ text name

  -- each presented identifier is a name beside its row
  pub presented_is : (rows : List Row) (names : List A) (j : ℕ) (p : Presented) → get_elem? (presented_in text rows names) j ≡ some p → Is rows names j p
  unfolding presented_in
  presented_is [] names j p e = absurd (no_some e)
  presented_is (r ∷ rows) [] j p e = absurd (no_some e)
  presented_is (r ∷ rows) (n ∷ names) zero p e =
      let q : record { row = r; text = text n } ≡ p = some-injective _ p e in
      record { name = n; name_at_lem = refl; row_at = ap (λ x. some x.row) q; text_is = sym (ap (λ x. x.text) q) }
  presented_is (r ∷ rows) (n ∷ names) (suc j) p e =
      let i = presented_is rows names j p e in
      record { name = i.name; name_at_lem = i.name_at_lem; row_at = i.row_at; text_is = i.text_is }

  -- each name is presented
  pub name_presented : (rows : List Row) (names : List A) → length rows ≡ length names → (j : ℕ) (n : A) → get_elem? names j ≡ some n
      → (p : Presented) × (get_elem? (presented_in text rows names) j ≡ some p) × (p.text ≡ text n)
  unfolding presented_in
  name_presented rows [] e j n f = absurd (no_some f)
  name_presented [] (m ∷ names) e j n f = absurd (omega arith)
  name_presented (r ∷ rows) (m ∷ names) e zero n f = (record { row = r; text = text m }, refl, ap text (some-injective m n f))
  name_presented (r ∷ rows) (m ∷ names) e (suc j) n f = name_presented rows names (omega arith) j n f

-- ---- texts

module _ (f : List ℕ → Bool) where
  -- a test of the text that a name presents is a test of its content, where the name is of that form
  tagged_text_lem : (tag : ℕ) (n : GeneralName) → T (if_some (tagged_text tag n) f) ↔ (c : List ℕ) × (n ≡ plain tag c) × T (f c)
  tagged_text_lem tag n = (
    λ h.
        let s = (some_passes (tagged_text tag n) f).0 h in
        (s.0, (tagged_is tag n s.0).0 s.1, s.2),
    λ h. (some_passes (tagged_text tag n) f).1 (h.0, (tagged_is tag n h.0).1 h.1, h.2),
  )

  srv_text_lem : (n : GeneralName) → T (if_some (srv_text n) f) ↔ (tag : ℕ) × (c : List ℕ) × (n ≡ other srv_oid tag c) × T (f c)
  srv_text_lem n = (
    λ h.
        let s = (some_passes (srv_text n) f).0 h in
        let i = (srv_is n s.0).0 s.1 in
        (i.0, s.0, i.1, s.2),
    λ h. (some_passes (srv_text n) f).1 (h.1, (srv_is n h.1).1 (h.0, h.2), h.3),
  )

  cn_text_lem : (subject : List (Member Attribute)) (a : Member Attribute)
      → T (if_some (cn_text subject a) f)
      ↔ T (is_cn a.value) × T (cn_tag a.value.tag) × T (sole_cn subject a.group) × T (f a.value.content)
  unfolding cn_text
  cn_text_lem subject a = go (is_cn a.value) (cn_tag a.value.tag) (sole_cn subject a.group) refl refl refl
    where
      go : (x y z : Bool) → is_cn a.value ≡ x → cn_tag a.value.tag ≡ y → sole_cn subject a.group ≡ z
          → T (if_some (cn_text subject a) f)
          ↔ T (is_cn a.value) × T (cn_tag a.value.tag) × T (sole_cn subject a.group) × T (f a.value.content)
      go true true true p q r = simp (p, q, r) (λ h. (tt, tt, tt, h), λ h. h.3)
      go true true false p q r = simp (p, q, r) (λ h. absurd h, λ h. h.2)
      go true false z p q r = simp (p, q, r) (λ h. absurd h, λ h. h.1)
      go false y z p q r = simp (p, q, r) (λ h. absurd h, λ h. h.0)

-- ---- what blocks the CN

-- none passes, exactly where the test of any fails
any_false : {A : Type 0} (p : A → Bool) (l : List A) → any p l ≡ false → (i : ℕ) (a : A) → get_elem? l i ≡ some a → ¬ T (p a)
any_false p [] e i a f h = no_some f
any_false p (b ∷ l) e i a f h = go (p b) refl i f (λ e' k g. any_false p l e' k a g h)
  where
    go : (t : Bool) → p b ≡ t → (i : ℕ) → get_elem? (b ∷ l) i ≡ some a → (any p l ≡ false → (k : ℕ) → get_elem? l k ≡ some a → ⊥) → ⊥
    go true q i g ih = let z : true ≡ false = rw q at e in true≢false z
    go false q zero g ih = subst T (ap p (sym (some-injective b a g)) ∙ q) h
    go false q (suc i) g ih = ih (rw q at e) i g

any_none : {A : Type 0} (p : A → Bool) (l : List A) → ((i : ℕ) (a : A) → get_elem? l i ≡ some a → ¬ T (p a)) → any p l ≡ false
any_none p [] u = refl
any_none p (b ∷ l) u = go (p b) refl (any_none p l (λ i a g. u (suc i) a g))
  where
    go : (t : Bool) → p b ≡ t → any p l ≡ false → any p (b ∷ l) ≡ false
    go true q ih = absurd (u 0 b refl (rw q tt))
    go false q ih = rw q ih

module _ (l : Names) where
  -- a CN reference is held against the attributes, or against nothing
  cn_held : any blocks_cn l.san ≡ false → presented_to cn_kind l.san l.subject ≡ presented_in (cn_text l.subject) (subject_grammar.rows l.subject) l.subject
  unfolding presented_to
  cn_held f = simp f

  cn_none : any blocks_cn l.san ≡ true → presented_to cn_kind l.san l.subject ≡ []
  unfolding presented_to
  cn_none f = simp f

-- ---- what a reference matches

module _ (l : Names) (r : Reference) (j : ℕ) where
  -- which presented identifiers a reference is held against
  entries_presented : r.kind ≢ cn_kind → presented_to r.kind l.san l.subject ≡ presented_in (entry_text r.kind) (san_grammar.rows l.san) l.san
  unfolding presented_to
  entries_presented h = simp (ne_eqb r.kind cn_kind h)

  cns_presented : r.kind ≡ cn_kind → any blocks_cn l.san ≡ false → presented_to r.kind l.san l.subject ≡ presented_in (cn_text l.subject) (subject_grammar.rows l.subject) l.subject
  cns_presented e f = rw e (cn_held l f)

  none_presented : r.kind ≡ cn_kind → any blocks_cn l.san ≡ true → presented_to r.kind l.san l.subject ≡ []
  none_presented e f = rw e (cn_none l f)

  -- a match is a match of the text of the name at j, where the presented identifiers are these names beside these rows
  module _ {A : Type 0} (text : A → Option (List ℕ)) (rows : List Row) (names : List A)
      (are : presented_to r.kind l.san l.subject ≡ presented_in text rows names) where
    match_is : (m : MatchesAt l r j) → Is text rows names j m.presented
    match_is m = presented_is text rows names j m.presented (subst (λ x. get_elem? x j ≡ some m.presented) are m.presented_at)

    match_name : length rows ≡ length names → MatchesAt l r j ↔ (n : A) × (get_elem? names j ≡ some n) × T (if_some (text n) (text_matches r))
    unfolding matches
    match_name count = (there, back)
      where
        there : MatchesAt l r j → (n : A) × (get_elem? names j ≡ some n) × T (if_some (text n) (text_matches r))
        there m =
            let i = match_is m in
            (i.name, i.name_at_lem, subst (λ o. T (if_some o (text_matches r))) i.text_is m.matched)

        back : (n : A) × (get_elem? names j ≡ some n) × T (if_some (text n) (text_matches r)) → MatchesAt l r j
        back h =
            let p = name_presented text rows names count j h.0 h.1 in
            record {
              presented = p.0;
              presented_at = subst (λ x. get_elem? x j ≡ some p.0) (sym are) p.1;
              matched = subst (λ o. T (if_some o (text_matches r))) (sym p.2) h.2;
            }

  -- a reference of another kind than CN is held against the entries
  pub entry_is : r.kind ≢ cn_kind → (m : MatchesAt l r j) → Is (entry_text r.kind) (san_grammar.rows l.san) l.san j m.presented
  entry_is h = match_is (entry_text r.kind) (san_grammar.rows l.san) l.san (entries_presented h)

  -- and a CN reference against the attributes
  pub attribute_is : r.kind ≡ cn_kind → (m : MatchesAt l r j) → Is (cn_text l.subject) (subject_grammar.rows l.subject) l.subject j m.presented
  attribute_is e m = go (any blocks_cn l.san) refl
    where
      go : (t : Bool) → any blocks_cn l.san ≡ t → Is (cn_text l.subject) (subject_grammar.rows l.subject) l.subject j m.presented
      go true f = absurd (no_some (subst (λ x. get_elem? x j ≡ some m.presented) (none_presented e f) m.presented_at))
      go false f = match_is (cn_text l.subject) (subject_grammar.rows l.subject) l.subject (cns_presented e f) m

  -- the numbers of a match
  pub entry_index : (m : MatchesAt l r j) → r.kind ≢ cn_kind → (m.presented.row.group ≡ j) × (get_elem? (san_grammar.rows l.san) j ≡ some m.presented.row)
  entry_index m h =
      let i = entry_is h m in
      let g = (san_row l.san j i.name m.presented.row i.name_at_lem i.row_at).group_is in
      (omega arith, i.row_at)

  pub set_index : (m : MatchesAt l r j) → r.kind ≡ cn_kind
      → (a : Member Attribute) × (get_elem? l.subject j ≡ some a) × (m.presented.row.group ≡ a.group)
      × (get_elem? (subject_grammar.rows l.subject) j ≡ some m.presented.row)
  set_index m e =
      let i = attribute_is e m in
      (i.name, i.name_at_lem, (subject_row l.subject j i.name m.presented.row i.name_at_lem i.row_at).group_is, i.row_at)

  -- ---- by kind

  -- an entry's text and test, where the kind says what they are
  entry_kind :
      {text : GeneralName → Option (List ℕ)} {test : List ℕ → Bool} → r.kind ≢ cn_kind
      → ((n : GeneralName) → entry_text r.kind n ≡ text n) → ((c : List ℕ) → text_matches r c ≡ test c)
      → MatchesAt l r j ↔ (n : GeneralName) × (get_elem? l.san j ≡ some n) × T (if_some (text n) test)
  entry_kind {text} {test} h e f =
      Iff.trans (match_name (entry_text r.kind) (san_grammar.rows l.san) l.san (entries_presented h) (san_reading.count l.san))
      (λ m. (m.0, m.1, subst T (same_test m.0) m.2), λ m. (m.0, m.1, subst T (sym (same_test m.0)) m.2))
    where
      same_test : (n : GeneralName) → if_some (entry_text r.kind n) (text_matches r) ≡ if_some (text n) test
      same_test n = λ i. if_some (e n i) (λ c. f c i)

  -- an entry of one tag
  tagged_kind :
      (tag : ℕ) (test : List ℕ → Bool) → r.kind ≢ cn_kind
      → ((n : GeneralName) → entry_text r.kind n ≡ tagged_text tag n) → ((c : List ℕ) → text_matches r c ≡ test c)
      → MatchesAt l r j ↔ (c : List ℕ) × (get_elem? l.san j ≡ some (plain tag c)) × T (test c)
  tagged_kind tag test h e f =
      Iff.trans (entry_kind {text = tagged_text tag} {test = test} h e f) (
        λ m.
            let t = (tagged_text_lem test tag m.0).0 m.2 in
            (t.0, m.1 ∙ ap some t.1, t.2),
        λ m. (plain tag m.0, m.1, (tagged_text_lem test tag _).1 (m.0, refl, m.2)),
      )

  dns : r.kind ≡ dns_kind → MatchesAt l r j ↔ (c : List ℕ) × (get_elem? l.san j ≡ some (plain 0x82 c)) × T (dns_matches r.domain c)
  unfolding entry_text text_matches
  dns e = tagged_kind 0x82 (dns_matches r.domain) (λ q. omega arith) (λ n. simp e) (λ c. simp e)

  uri : r.kind ≡ uri_kind → MatchesAt l r j ↔ (c : List ℕ) × (get_elem? l.san j ≡ some (plain 0x86 c)) × T (uri_matches r.service r.domain c)
  unfolding entry_text text_matches
  uri e = tagged_kind 0x86 (uri_matches r.service r.domain) (λ q. omega arith) (λ n. simp e) (λ c. simp e)

  srv : r.kind ≡ srv_kind
      → MatchesAt l r j
      ↔ (tag : ℕ) × (c : List ℕ) × (get_elem? l.san j ≡ some (other srv_oid tag c)) × T (srv_matches r.service r.domain c)
  unfolding entry_text text_matches
  srv e =
      Iff.trans (entry_kind {text = srv_text} {test = srv_matches r.service r.domain} (λ q. omega arith) (λ n. simp e) (λ c. simp e)) (
        λ m.
            let t = (srv_text_lem (srv_matches r.service r.domain) m.0).0 m.2 in
            (t.0, t.1, m.1 ∙ ap some t.2, t.3),
        λ m. (other srv_oid m.0 m.1, m.2, (srv_text_lem (srv_matches r.service r.domain) _).1 (m.0, m.1, refl, m.3)),
      )

  -- an attribute that is a CN-ID and matches
  abbrev CnMatch : Type 0
  CnMatch =
      (a : Member Attribute) × (get_elem? l.subject j ≡ some a) × T (is_cn a.value) × T (cn_tag a.value.tag)
      × T (sole_cn l.subject a.group) × T (dns_matches r.domain a.value.content)

  -- of an attribute, where nothing blocks it
  cn_unblocked : r.kind ≡ cn_kind → any blocks_cn l.san ≡ false → MatchesAt l r j ↔ CnMatch
  unfolding text_matches
  cn_unblocked e f =
      Iff.trans (match_name (cn_text l.subject) (subject_grammar.rows l.subject) l.subject (cns_presented e f) (subject_reading.count l.subject)) (
        λ m.
            let t = (cn_text_lem (text_matches r) l.subject m.0).0 m.2 in
            (m.0, m.1, t.0, t.1, t.2, simp e at t.3),
        λ m. (m.0, m.1, (cn_text_lem (text_matches r) l.subject m.0).1 (m.2, m.3, m.4, simp e m.5)),
      )

  cn : r.kind ≡ cn_kind → MatchesAt l r j ↔ ((i : ℕ) (entry : GeneralName) → get_elem? l.san i ≡ some entry → ¬ T (blocks_cn entry)) × CnMatch
  cn e = go (any blocks_cn l.san) refl
    where
      go : (t : Bool) → any blocks_cn l.san ≡ t
          → MatchesAt l r j ↔ ((i : ℕ) (entry : GeneralName) → get_elem? l.san i ≡ some entry → ¬ T (blocks_cn entry)) × CnMatch
      go true f = (
        λ m. absurd (no_some (subst (λ x. get_elem? x j ≡ some m.presented) (none_presented e f) m.presented_at)),
        λ h. absurd (true≢false (sym f ∙ any_none blocks_cn l.san h.0)),
      )
      go false f = (λ m. (any_false blocks_cn l.san f, (cn_unblocked e f).0 m), λ h. (cn_unblocked e f).1 h.1)

  pub kinds : Kinds l r j
  kinds = record { dns = dns; srv = srv; uri = uri; cn = cn }
