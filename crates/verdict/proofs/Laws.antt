-- The laws that the functions' proofs search: one for each return.
use Prim.Native.Nat.{ℕ, ◌+◌, ◌-◌, ◌≤◌, ◌<◌}
use mathlib.Core.Path.{◌≡◌, refl, sym, ap, ◌∙◌}
use mathlib.Core.Bool.{Bool, true, false, cond, not, ◌&&◌, ◌||◌}
use mathlib.Core.Option.{Option, none, some}
use mathlib.Core.List.{List, [], ◌∷◌, map}
use native.Mathlib.Omega.{arith}
use native.Mathlib.Nat.{add-sub_cancel_left}
use lib.ListN.{length, take, drop}
use lib.Dec.{ltb}
use borrow.Author.Tests.{lt-ltb, le-ltb}
use Rattle.std.specs.List.{list_any, list_all}
use Rattle.std.specs.Iterator.{YieldsFirstRef}
use Rattle.std.proofs.lemmas.Iterator.{YieldsList}
use Rattle.std.proofs.lemmas.Iterator.Consumers.{YieldsList-from_first}
use Rattle.issuers.specs.declared.cut.Strings.{Strings}
use Rattle.rules.specs.Bytes.{part, some?, all, any, cut}
use Rattle.rules.specs.Numbers.{san_limit, subject_limit, constraints_limit, records_limit, answer_of}
use Rattle.rules.specs.Records.{good_records, references_of}
use Rattle.rules.specs.Seen.{lengths_fit, strings_of}
use Rattle.rules.specs.Matching.{Pair, first_pair, first_breach}
use Rattle.rules.specs.Verdict.{past, witness_text, witness_place, witness_of, matched_or, broken_or, judged}
use Rattle.rules.specs.declared.Witness.{Witness}
use Rattle.rules.specs.declared.Breach.{Breach}
use Rattle.std.specs.Prelude as std
use Rattle.std.specs.Prelude.{Result, Ok, Err, Some, None, is_ok, MatchOption}
use Rattle.rules.specs.declared.Refusal.{Refusal}
use Rattle.rules.specs.declared.Refusal.TheVariants.{InputTooLong, RecordsUnreadable, SanUnreadable, SubjectUnreadable, ConstraintsUnreadable}
use Rattle.rules.specs.declared.Outcome.{Outcome}
use Rattle.rules.specs.declared.Outcome.TheVariants.{Refused, Broken, Matched, Mismatched}
use Rattle.reading.specs.Answers.{no_some}
use Rattle.reading.specs.Reader.{is_some}
use Rattle.reading.specs.Strings.{read_san, read_subject, read_constraints}
use Rattle.reading.specs.Calls.{inputs, witness_text_on, witness_place_on}
use Rattle.strings.specs.Counts.{place_count}
use Rattle.entries.specs.declared.Unreadable.{Unreadable}
use Rattle.der.specs.Runs as runs
use Rattle.der.specs.Runs.{validated, names_of}
use Rattle.constrained.specs.Breaches.{breach_of}
use Rattle.issuers.specs.Strings.{strings_in}
use Rattle.pairs.specs.Pairs.{held_by, HeldFits}
use Rattle.verdict.specs.Judging.{constraints_long, any_long, subject_read, constraints_read, first_refusal, SmallWitness, Small, numbers_are_small, place_is_small, numbers_of_inputs, place_of_inputs}
use Rattle.verdict.proofs.Refusing.{whole, AllRead, sizes_fit, lengths_fit_lem, refused_is, all_read, judged_is}

-- ---- any_long

module _ (R S J C L : List ℕ) where
  pub long_records : records_limit < length R → true ≡ any_long R S J C L
  unfolding any_long
  long_records h = simp (lt-ltb records_limit (length R) h)

  module _ (r : length R ≤ records_limit) where
    pub long_san : san_limit < length S → true ≡ any_long R S J C L
    unfolding any_long
    long_san h = simp (le-ltb records_limit (length R) r, lt-ltb san_limit (length S) h)

    module _ (s : length S ≤ san_limit) where
      pub long_subject : subject_limit < length J → true ≡ any_long R S J C L
      unfolding any_long
      long_subject h = simp (le-ltb records_limit (length R) r, le-ltb san_limit (length S) s, lt-ltb subject_limit (length J) h)

      pub long_constraints : length J ≤ subject_limit → (t : Bool) → t ≡ constraints_long L (length C) → t ≡ any_long R S J C L
      unfolding any_long
      long_constraints h t e = e ∙ simp (le-ltb records_limit (length R) r, le-ltb san_limit (length S) s, le-ltb subject_limit (length J) h)

-- ---- constraints_long

any_is : (p : ℕ → Bool) (l : List ℕ) → list_any p l ≡ any p l
any_is p [] = refl
any_is p (x ∷ l) = ap (λ v. p x || v) (any_is p l)

module _ (lengths : List ℕ) (size : ℕ) where
  pub lengths_wrong : lengths_fit lengths size ≡ false → true ≡ constraints_long lengths size
  unfolding constraints_long
  lengths_wrong e = rw e

  pub lengths_each : lengths_fit lengths size ≡ true → (r : Bool) → r ≡ list_any (ltb constraints_limit) lengths → r ≡ constraints_long lengths size
  unfolding constraints_long
  lengths_each e r r_is = r_is ∙ rw (any_is (ltb constraints_limit) lengths, e)

-- ---- readable or not

module _ {N : Type 0} (read : List ℕ → Option (List N)) (s : List ℕ) (c : Result ℕ Unreadable) (c_is : c ≡ place_count (read s)) (b : Bool) (b_is : b ≡ is_ok c) where
  counted : b ≡ is_some (read s)
  unfolding place_count
  counted = go (read s) (ap is_ok c_is)
    where
      go : (o : Option (List N)) → is_ok c ≡ is_ok (place_count o) → b ≡ is_some o
      go none e = b_is ∙ e
      go (some l) e = b_is ∙ e

  pub valid_counted : (length s ≡ 0 → ⊥) → b ≡ validated read s
  unfolding validated
  valid_counted h = counted ∙ go s h (is_some (read s))
    where
      go : (l : List ℕ) → (length l ≡ 0 → ⊥) → (v : Bool) → v ≡ (not (some? l) || v)
      go [] g v = absurd (g refl)
      go (x ∷ l) g v = refl

pub valid_absent : {N : Type 0} (read : List ℕ → Option (List N)) (s : List ℕ) → length s ≡ 0 → true ≡ validated read s
valid_absent read s e = sym (runs.absent_valid read s e)

pub subject_counted : (s : List ℕ) (c : Result ℕ Unreadable) → c ≡ place_count (read_subject s) → (b : Bool) → b ≡ is_ok c → b ≡ subject_read s
unfolding subject_read
subject_counted s c c_is b b_is = counted read_subject s c c_is b b_is

-- ---- constraints_read

-- what the walk over the strings gives in all
pub all_strings : (s : Strings) → YieldsList (YieldsFirstRef (λ x. cut x.lengths.now x.bytes.now)) (λ x. x.now) s (cut s.lengths.now s.bytes.now)
all_strings s = YieldsList-from_first (λ x. x.now) (λ x. cut x.lengths.now x.bytes.now) _ refl

pub these_strings : (C L : List ℕ) (o : std.Option Strings) → MatchOption o (strings_of L C ≡ none) (λ s. strings_of L C ≡ some (cut s.lengths.now s.bytes.now))
    → (s : Strings) → o ≡ Some s → strings_of L C ≡ some (cut s.lengths.now s.bytes.now)
these_strings C L None e s f = let z : ◌≡◌ {A = ℕ} 0 1 = cc in absurd (omega arith)
these_strings C L (Some t) e s f = let k : t ≡ s = cc in rw (← k) e

all_is : (p : List ℕ → Bool) (l : List (List ℕ)) → list_all p l ≡ all p l
all_is p [] = refl
all_is p (x ∷ l) = ap (λ v. p x && v) (all_is p l)

module _ (C L : List ℕ) (fit : lengths_fit L (length C) ≡ true) where
  pub read_each : (cuts : List (List ℕ)) → strings_of L C ≡ some cuts → (r : Bool) → r ≡ list_all (validated read_constraints) cuts → r ≡ constraints_read C L
  unfolding constraints_read strings_in
  read_each cuts e r r_is = r_is ∙ all_is (validated read_constraints) cuts ∙ rw e

  pub read_never : strings_of L C ≡ none → (r : Bool) → r ≡ constraints_read C L
  unfolding strings_of
  read_never e r = let z : some (cut L C) ≡ none = rw fit at e in absurd (no_some (sym z))

-- ---- the refusals in their order

module _ (R S J C L : List ℕ) where
  pub ref_long : any_long R S J C L ≡ true → Err InputTooLong ≡ first_refusal R S J C L
  unfolding first_refusal
  ref_long h = simp h

  module _ (short : any_long R S J C L ≡ false) where
    pub asks_fit : lengths_fit L (length C) ≡ true
    asks_fit = lengths_fit_lem R S J C L short

    pub ref_records : good_records R ≡ false → Err RecordsUnreadable ≡ first_refusal R S J C L
    unfolding first_refusal
    ref_records h = simp (short, h)

    module _ (good : good_records R ≡ true) where
      pub ref_san : validated read_san S ≡ false → Err SanUnreadable ≡ first_refusal R S J C L
      unfolding first_refusal
      ref_san h = simp (short, good, h)

      module _ (san : validated read_san S ≡ true) where
        pub ref_subject : subject_read J ≡ false → Err SubjectUnreadable ≡ first_refusal R S J C L
        unfolding first_refusal
        ref_subject h = simp (short, good, san, h)

        module _ (subject : subject_read J ≡ true) where
          pub ref_constraints : constraints_read C L ≡ false → Err ConstraintsUnreadable ≡ first_refusal R S J C L
          unfolding first_refusal
          ref_constraints h = simp (short, good, san, subject, h)

          pub ref_none : constraints_read C L ≡ true → (u : Unit {0}) → Ok u ≡ first_refusal R S J C L
          unfolding first_refusal
          ref_none h u = simp (short, good, san, subject, h)

-- what a test answers is what the definition says
pub is_so : (b d : Bool) → b ≡ d → (v : Bool) → b ≡ v → d ≡ v
is_so b d e v f = sym e ∙ f

-- ---- outcome

-- the place of a witness in its string, and so below the longest string's length
module _ (S J : List ℕ) (s : length S ≤ san_limit) (j : length J ≤ subject_limit) where
  string_small : (t : Bool) → length (cond t J S) ≤ san_limit
  string_small true = omega arith
  string_small false = s

-- a witness that lies in its string
small_witness_of : (R S J : List ℕ) → (length R ≤ records_limit) × (length S ≤ san_limit) × (length J ≤ subject_limit)
    → (h : std.Option Witness) → HeldFits R S J h → (w : Witness) → h ≡ Some w → SmallWitness S J w
unfolding HeldFits
small_witness_of R S J sizes None f w e = let z : ◌≡◌ {A = ℕ} 0 1 = cc in absurd (omega arith)
small_witness_of R S J sizes (Some v) f w e =
    let v_w : v ≡ w = cc in
    let l = string_small S J sizes.1 sizes.2 v.subject in
    rw (← v_w) (record {
      reference_small = omega (arith, f.reference_fits);
      presented_small = omega (arith, f.presented_fits);
      start_small = omega (arith, f.element_fits);
      length_small = omega (arith, f.element_fits);
      text_small = omega (arith, f.text_fits);
      text_fits = f.text_fits;
    })

-- every refusal's number is small
pub refusal_small : (refusal : Refusal) → answer_of refusal ≤ 7
refusal_small InputTooLong = omega arith
refusal_small RecordsUnreadable = omega arith
refusal_small SanUnreadable = omega arith
refusal_small SubjectUnreadable = omega arith
refusal_small ConstraintsUnreadable = omega arith

module _ (R S J C L : List ℕ) (r : Result (Unit {0}) Refusal) (r_is : r ≡ first_refusal R S J C L) where
  module _ (refusal : Refusal) (e : r ≡ Err refusal) where
    pub out_refused : (answer : ℕ) → answer ≡ answer_of refusal → Refused answer ≡ whole R S J C L
    out_refused answer f = rw f (refused_is R S J C L r r_is refusal e)

    pub refused_small : (answer : ℕ) → answer ≡ answer_of refusal → Small S J (Refused answer)
    unfolding Small
    refused_small answer f = let h = refusal_small refusal in omega (arith, f, h)

  module _ (u : Unit {0}) (ok : r ≡ Ok u) where
    read : AllRead R S J C L
    read = all_read R S J C L r r_is u ok

    pub asks_san : validated read_san S ≡ true
    asks_san = read.san

    pub asks_constraints : all (validated read_constraints) (strings_in L C) ≡ true
    unfolding constraints_read
    asks_constraints = read.constraints

    pub asks_records : good_records R ≡ true
    asks_records = read.good

    pub asks_subject : validated read_subject J ≡ true
    unfolding subject_read
    asks_subject = runs.read_valid read_subject J read.subject

    module _ (b : std.Option Breach)
        (b_is : b ≡ breach_of (first_breach 0 (map (names_of read_constraints) (strings_in L C)) (names_of read_san S))) where
      judged_broken : (o : Option Breach) (x : Outcome) (i : Breach) → breach_of o ≡ Some i → broken_or o x ≡ Broken i
      unfolding breach_of
      judged_broken none x i e = let z : ◌≡◌ {A = ℕ} 0 1 = cc in absurd (omega arith)
      judged_broken (some k) x i e = let f : k ≡ i = cc in ap Broken f

      judged_whole : (o : Option Breach) (x : Outcome) → breach_of o ≡ None → broken_or o x ≡ x
      unfolding breach_of
      judged_whole none x e = refl
      judged_whole (some k) x e = let z : ◌≡◌ {A = ℕ} 0 1 = cc in absurd (omega arith)

      module _ (i : Breach) (e : b ≡ Some i) where
        pub out_broken : Broken i ≡ whole R S J C L
        unfolding judged
        out_broken = sym (judged_is R S J C L r r_is u ok ∙ judged_broken _ _ i (sym b_is ∙ e))

        pub broken_small : ((k : Breach) → b ≡ Some k → (k.issuer ≤ 8) × (k.presented ≤ length S)) → Small S J (Broken i)
        unfolding Small
        broken_small small =
            (omega (arith, (small i e).0), omega (arith, (small i e).1, (sizes_fit R S J C L read.short).1))

      module _ (e : b ≡ None) (h : std.Option Witness) (h_is : h ≡ held_by (first_pair 0 (references_of R) (names_of read_san S) (names_of read_subject J))) where
        whole_is : whole R S J C L ≡ matched_or (first_pair 0 (references_of R) (names_of read_san S) (names_of read_subject J))
        unfolding judged
        whole_is = judged_is R S J C L r r_is u ok ∙ judged_whole _ _ (sym b_is ∙ e)

        held_matched : (o : Option Pair) (w : Witness) → held_by o ≡ Some w → matched_or o ≡ Matched w
        unfolding held_by
        held_matched none w f = let z : ◌≡◌ {A = ℕ} 0 1 = cc in absurd (omega arith)
        held_matched (some p) w f = let k : witness_of p ≡ w = cc in ap Matched k

        held_none : (o : Option Pair) → held_by o ≡ None → matched_or o ≡ Mismatched
        unfolding held_by
        held_none none f = refl
        held_none (some p) f = let z : ◌≡◌ {A = ℕ} 0 1 = cc in absurd (omega arith)

        module _ (w : Witness) (f : h ≡ Some w) where
          pub out_matched : Matched w ≡ whole R S J C L
          out_matched = sym (whole_is ∙ held_matched _ w (sym h_is ∙ f))

          pub matched_small : HeldFits R S J h → Small S J (Matched w)
          unfolding Small
          matched_small fits = small_witness_of R S J (sizes_fit R S J C L read.short) h fits w f

        pub out_none : h ≡ None → Mismatched ≡ whole R S J C L
        out_none f = sym (whole_is ∙ held_none _ (sym h_is ∙ f))

        pub none_small : Small S J Mismatched
        unfolding Small
        none_small = tt

-- ---- the witness's text

-- ---- the witness, in its string

module _ (w : Witness) (S J : List ℕ) where
  pub fits_subject : SmallWitness S J w → w.subject ≡ true → w.text.start + w.text.length ≤ length J
  fits_subject q e = rw e at q.text_fits

  pub fits_san : SmallWitness S J w → w.subject ≡ false → w.text.start + w.text.length ≤ length S
  fits_san q e = rw e at q.text_fits

  pub bytes_subject : w.subject ≡ true → take (w.text.start + w.text.length - w.text.start) (drop w.text.start J) ≡ witness_text S J (Matched w)
  unfolding witness_text part
  bytes_subject e = rw (e, add-sub_cancel_left)

  pub bytes_san : w.subject ≡ false → take (w.text.start + w.text.length - w.text.start) (drop w.text.start S) ≡ witness_text S J (Matched w)
  unfolding witness_text part
  bytes_san e = rw (e, add-sub_cancel_left)

module _ (w : Witness) (p q : ℕ × ℕ) where
  pub place_subject : w.subject ≡ true → past q w.text.start ≡ witness_place p q (Matched w)
  unfolding witness_place
  place_subject e = rw e

  pub place_san : w.subject ≡ false → past p w.text.start ≡ witness_place p q (Matched w)
  unfolding witness_place
  place_san e = rw e

module _ (o : Outcome) (S J : List ℕ) where
  pub small_witness : Small S J o → (w : Witness) → o ≡ Matched w → SmallWitness S J w
  unfolding Small
  small_witness q w e = rw e at q

  pub shown_refused : (n : ℕ) → o ≡ Refused n → [] ≡ witness_text S J o
  unfolding witness_text
  shown_refused n e = rw e

  pub shown_broken : (b : Breach) → o ≡ Broken b → [] ≡ witness_text S J o
  unfolding witness_text
  shown_broken b e = rw e

  pub shown_mismatched : o ≡ Mismatched → [] ≡ witness_text S J o
  unfolding witness_text
  shown_mismatched e = rw e

  pub shown_matched : (w : Witness) → o ≡ Matched w → (t : List ℕ) → t ≡ witness_text S J (Matched w) → t ≡ witness_text S J o
  shown_matched w e t f = f ∙ rw e

module _ (o : Outcome) (p q : ℕ × ℕ) where
  pub at_refused : (n : ℕ) → o ≡ Refused n → p ≡ witness_place p q o
  unfolding witness_place
  at_refused n e = rw e

  pub at_broken : (b : Breach) → o ≡ Broken b → p ≡ witness_place p q o
  unfolding witness_place
  at_broken b e = rw e

  pub at_mismatched : o ≡ Mismatched → p ≡ witness_place p q o
  unfolding witness_place
  at_mismatched e = rw e

  pub at_matched : (w : Witness) → o ≡ Matched w → (t : ℕ × ℕ) → t ≡ witness_place p q (Matched w) → t ≡ witness_place p q o
  at_matched w e t f = f ∙ rw e

module _ (R S J C L : List ℕ) (o : Outcome) (o_is : o ≡ whole R S J C L) where
  pub witness_bytes : (t : List ℕ) → t ≡ witness_text S J o → t ≡ witness_text_on (inputs S J C (some L) R)
  unfolding witness_text_on
  witness_bytes t e = e ∙ ap (witness_text S J) o_is

  pub witness_place_lem : (p q t : ℕ × ℕ) → t ≡ witness_place p q o → t ≡ witness_place_on (inputs S J C (some L) R) p q
  unfolding witness_place_on
  witness_place_lem p q t e = e ∙ ap (witness_place p q) o_is

pub ruleset texts = (
  place_of_inputs,
  place_is_small,
  fits_subject,
  fits_san,
  bytes_subject,
  bytes_san,
  place_subject,
  place_san,
  small_witness,
  shown_refused,
  shown_broken,
  shown_mismatched,
  shown_matched,
  at_refused,
  at_broken,
  at_mismatched,
  at_matched,
  witness_bytes,
  witness_place_lem,
)

pub ruleset laws = (
  long_records,
  long_san,
  long_subject,
  long_constraints,
  lengths_wrong,
  lengths_each,
  read_each,
  read_never,
  valid_absent,
  valid_counted,
  subject_counted,
  numbers_of_inputs,
  numbers_are_small,
)

pub ruleset refusals = (is_so, asks_fit, ref_long, ref_records, ref_san, ref_subject, ref_constraints, ref_none)

pub ruleset outcomes = (
  out_refused,
  refused_small,
  asks_san,
  asks_constraints,
  asks_records,
  asks_subject,
  out_broken,
  broken_small,
  out_matched,
  matched_small,
  out_none,
  none_small,
)
