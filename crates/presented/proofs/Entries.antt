-- What the functions on SAN entries return, by their own tests.
use Prim.Native.Nat.{ℕ, ◌≤◌, ◌<◌}
use mathlib.Core.Path.{◌≡◌, refl, sym, ap, ◌∙◌}
use mathlib.Core.Bool.{Bool, true, false, ◌||◌}
use mathlib.Core.Option.{Option, none, some}
use mathlib.Core.List.{List}
use native.Mathlib.Omega.{arith}
use lib.ListN.{length}
use lib.Dec.{eqb}
use Rattle.std.specs.Prelude as std
use Rattle.std.specs.Prelude.{Result, Ok, Err, Some, None}
use Rattle.octets.proofs.Cases.{by_cases}
use borrow.Author.Tests.{eqb-true}
use Rattle.rules.specs.Bytes.{any, same}
use Rattle.rules.specs.Numbers.{kind_of, kind_number}
use Rattle.rules.specs.declared.Kind.{Kind}
use Rattle.rules.specs.declared.Kind.TheVariants.{Dns, Srv, Uri, Cn}
use Rattle.rules.specs.declared.UnknownKind.{UnknownKind}
use Rattle.rules.specs.San.{GeneralName, plain, other, srv_oid}
use Rattle.rules.specs.Matching.{tagged_text, srv_text, entry_text, blocks_cn, if_some}
use Rattle.reading.specs.Reader.{is_some}
use Rattle.reading.specs.Strings.{read_name, read_san}
use Rattle.reading.specs.Answers.{some_of}
use Rattle.der.specs.Places.{element_at}
use Rattle.der.specs.Runs.{items_in, no_items, Run, end_of, validated, names_of, content_start, san_filled}
use Rattle.entries.specs.Entries.{whole_at, place_text, text_place}
use Rattle.entries.proofs.Steps.{with_entry}
use Rattle.presented.specs.Presented.{first_set}

-- ---- the text that an entry presents

-- to a CN reference it presents none
pub text_none : (s : List ℕ) (at end : ℕ) → is_some (whole_at s at end) ≡ true → None ≡ text_place (entry_text 4) s at end
unfolding entry_text text_place place_text
text_none s at end valid = some_of (whole_at s at end) valid λ m p. rw p

-- to another it presents what its own reader finds
pub text_dns : (s : List ℕ) (at end : ℕ) (r : std.Option ℕ) → r ≡ text_place (tagged_text 0x82) s at end → r ≡ text_place (entry_text 1) s at end
unfolding entry_text
text_dns s at end r e = e

pub text_srv : (s : List ℕ) (at end : ℕ) (r : std.Option ℕ) → r ≡ text_place srv_text s at end → r ≡ text_place (entry_text 2) s at end
unfolding entry_text
text_srv s at end r e = e

pub text_uri : (s : List ℕ) (at end : ℕ) (r : std.Option ℕ) → r ≡ text_place (tagged_text 0x86) s at end → r ≡ text_place (entry_text 3) s at end
unfolding entry_text
text_uri s at end r e = e

-- ---- whether it keeps CN references from counting

-- ---- by the number of a kind

number_is : (n : ℕ) (kind : Kind) → kind_of n ≡ Ok kind → kind_number kind ≡ n
number_is n kind e =
    by_cases (eqb n 1) (λ a. let f : ◌≡◌ {A = Result Kind UnknownKind} (Ok Dns) (Ok kind) = rw a at e in let k : Dns ≡ kind = cc in rw (← k, eqb-true n 1 a))
    (λ a. by_cases (eqb n 2) (λ b. let f : ◌≡◌ {A = Result Kind UnknownKind} (Ok Srv) (Ok kind) = rw (a, b) at e in let k : Srv ≡ kind = cc in rw (← k, eqb-true n 2 b))
    (λ b. by_cases (eqb n 3) (λ c. let f : ◌≡◌ {A = Result Kind UnknownKind} (Ok Uri) (Ok kind) = rw (a, b, c) at e in let k : Uri ≡ kind = cc in rw (← k, eqb-true n 3 c))
    (λ c. by_cases (eqb n 4) (λ d. let f : ◌≡◌ {A = Result Kind UnknownKind} (Ok Cn) (Ok kind) = rw (a, b, c, d) at e in let k : Cn ≡ kind = cc in rw (← k, eqb-true n 4 d))
    (λ d. let f : ◌≡◌ {A = Result Kind UnknownKind} (Err (record { 0 = n })) (Ok kind) = rw (a, b, c, d) at e in let z : ◌≡◌ {A = ℕ} 0 1 = cc in absurd (omega arith)))))

pub text_of_kind : (s : List ℕ) (at end n : ℕ) (o : Result Kind UnknownKind) → o ≡ kind_of n → (kind : Kind) → o ≡ Ok kind
    → (r : std.Option ℕ) → r ≡ text_place (entry_text (kind_number kind)) s at end → r ≡ text_place (entry_text n) s at end
text_of_kind s at end n o o_is kind e r r_is = r_is ∙ ap (λ m. text_place (entry_text m) s at end) (number_is n kind (sym o_is ∙ e))

pub text_of_no_kind : (s : List ℕ) (at end n : ℕ) → is_some (whole_at s at end) ≡ true → (o : Result Kind UnknownKind) → o ≡ kind_of n → (why : UnknownKind) → o ≡ Err why
    → None ≡ text_place (entry_text n) s at end
unfolding entry_text text_place place_text
text_of_no_kind s at end n valid o o_is why e =
    some_of (whole_at s at end) valid λ m p.
    let k : kind_of n ≡ Err why = sym o_is ∙ e in
    by_cases (eqb n 1) (λ a. let f : ◌≡◌ {A = Result Kind UnknownKind} (Ok Dns) (Err why) = rw a at k in let z : ◌≡◌ {A = ℕ} 0 1 = cc in absurd (omega arith))
    (λ a. by_cases (eqb n 2) (λ b. let f : ◌≡◌ {A = Result Kind UnknownKind} (Ok Srv) (Err why) = rw (a, b) at k in let z : ◌≡◌ {A = ℕ} 0 1 = cc in absurd (omega arith))
    (λ b. by_cases (eqb n 3) (λ c. let f : ◌≡◌ {A = Result Kind UnknownKind} (Ok Uri) (Err why) = rw (a, b, c) at k in let z : ◌≡◌ {A = ℕ} 0 1 = cc in absurd (omega arith))
    (λ c. rw (p, a, b, c))))

-- a name blocks the CN just where it presents a text to references of some kind
blocks_is : (m : GeneralName) → blocks_cn m ≡ is_some (entry_text 1 m) || is_some (entry_text 3 m) || is_some (entry_text 2 m)
unfolding blocks_cn entry_text tagged_text srv_text
blocks_is (plain t c) =
    by_cases (eqb t 0x82) (λ e. rw e) (λ e. by_cases (eqb t 0x86) (λ f. rw (e, f)) (λ f. rw (e, f)))
blocks_is (other o t c) = by_cases (same o srv_oid) (λ e. rw e) (λ e. rw e)

module _ (s : List ℕ) (at end : ℕ) (valid : is_some (whole_at s at end) ≡ true) where
  -- its text has a place just where there is one
  presents_is : (kind : ℕ) (r : std.Option ℕ) → r ≡ text_place (entry_text kind) s at end → (m : GeneralName) → whole_at s at end ≡ some m → std.is_some r ≡ is_some (entry_text kind m)
  unfolding text_place place_text
  presents_is kind r r_is m p = ap std.is_some r_is ∙ rw p (go (entry_text kind m))
    where
      go : (o : Option (List ℕ)) → std.is_some (place_text end o) ≡ is_some o
      go none = refl
      go (some c) = refl

  module _ (d : std.Option ℕ) (d_is : d ≡ text_place (entry_text 1) s at end) where
    pub blocks_dns : std.is_some d ≡ true → true ≡ if_some (whole_at s at end) blocks_cn
    blocks_dns h =
        some_of (whole_at s at end) valid λ m p.
        let e = sym (presents_is 1 d d_is m p) ∙ h in
        rw (p, blocks_is m, e)

    module _ (u : std.Option ℕ) (u_is : u ≡ text_place (entry_text 3) s at end) where
      pub blocks_uri : std.is_some u ≡ true → true ≡ if_some (whole_at s at end) blocks_cn
      blocks_uri h =
          some_of (whole_at s at end) valid λ m p.
          let e = sym (presents_is 3 u u_is m p) ∙ h in
          rw (p, blocks_is m, e) (by_cases (is_some (entry_text 1 m)) (λ f. rw f) (λ f. rw f))

      pub blocks_srv : std.is_some d ≡ false → std.is_some u ≡ false → (v : std.Option ℕ) → v ≡ text_place (entry_text 2) s at end
          → std.is_some v ≡ if_some (whole_at s at end) blocks_cn
      blocks_srv h k v v_is =
          some_of (whole_at s at end) valid λ m p.
          let e = sym (presents_is 1 d d_is m p) ∙ h in
          let f = sym (presents_is 3 u u_is m p) ∙ k in
          presents_is 2 v v_is m p ∙ rw (p, blocks_is m, e, f)

-- ---- whether any entry does

-- the entries of a SAN, from the first on
pub san_run : (s : List ℕ) → validated read_san s ≡ true → (at : ℕ) → at ≡ content_start s → (end : ℕ) → end ≡ length s → Run read_name s at end
san_run s valid at at_is end end_is = rw (at_is, end_is) (san_filled s valid).elements

-- what is left of the SAN, from `at` on, blocks a CN where the whole does
unfoldable pub BlocksLeft : List ℕ → ℕ → ℕ → Type 0
BlocksLeft s at end = any blocks_cn (items_in read_name s at end) ≡ any blocks_cn (names_of read_san s)

-- before the first entry
pub blocks_begin : (s : List ℕ) → validated read_san s ≡ true → (at : ℕ) → at ≡ content_start s → (end : ℕ) → end ≡ length s → BlocksLeft s at end
unfolding BlocksLeft
blocks_begin s valid at at_is end end_is = rw (at_is, end_is, (san_filled s valid).list)

module _ (s : List ℕ) (at end : ℕ) (inv : BlocksLeft s at end) (run : Run read_name s at end) where
  -- no entry is left
  pub blocks_end : end ≤ at → false ≡ any blocks_cn (names_of read_san s)
  unfolding BlocksLeft
  blocks_end hi =
      let q : at ≡ end = omega (arith, run.order) in
      rw (q, no_items read_name s end) at inv

  module _ (more : at < end) (n : ℕ) (n_is : n ≡ end_of (element_at s at end)) (q : Bool) (q_is : q ≡ if_some (whole_at s at n) blocks_cn) where
    -- an entry that blocks the CN
    pub blocks_here : q ≡ true → true ≡ any blocks_cn (names_of read_san s)
    unfolding BlocksLeft
    blocks_here e =
        with_entry s at end run more n n_is λ m p i.
        let f : blocks_cn m ≡ true = sym (rw p at q_is) ∙ e in
        rw (i, f) at inv

    -- one that does not
    pub blocks_next : q ≡ false → BlocksLeft s n end
    unfolding BlocksLeft
    blocks_next e =
        with_entry s at end run more n n_is λ m p i.
        let f : blocks_cn m ≡ false = sym (rw p at q_is) ∙ e in
        rw (i, f) at inv

-- ---- where the sets start

module _ (san subject : List ℕ) (b : Bool) (b_is : b ≡ any blocks_cn (names_of read_san san)) where
  pub sets_blocked : b ≡ true → length subject ≡ first_set san subject
  unfolding first_set
  sets_blocked e = rw (sym b_is ∙ e)

  pub sets_open : b ≡ false → (r : ℕ) → r ≡ content_start subject → r ≡ first_set san subject
  unfolding first_set
  sets_open e r f = f ∙ rw (sym b_is ∙ e)
