-- What a writer answers, and the buffer afterwards, by what its own tests found.
use Prim.Native.Nat.{ℕ, ◌+◌, ◌≤◌, ◌<◌}
use mathlib.Core.Path.{◌≡◌, refl, sym, ap, subst, ◌∙◌}
use mathlib.Core.Bool.{Bool, true, false, ◌&&◌}
use mathlib.Core.List.{List, ◌++◌}
use native.Mathlib.Nat.{zero-add}
use native.Mathlib.Omega.{arith}
use lib.ListN.{length, length-append}
use lib.Dec.{ltb}
use borrow.Author.Tests.{lt-ltb, le-ltb, ltb-false, ne_eqb}
use Rattle.std.specs.Prelude.{Result, Ok, Err}
use Rattle.rules.specs.Bytes.{all}
use Rattle.rules.specs.Der.{run}
use Rattle.rules.specs.Writing.{Request, request, Writer, agree, asked, good_list, result_of, refusal, fitted, written_by, buffer_by}
use Rattle.rules.specs.declared.Written.{Written}
use Rattle.rules.proofs.Cases.{none_is, some_is}
use Rattle.output.specs.Output.{pasted, Fits, Put}
use Rattle.output.proofs.Laws.{Left, left_begin, left_first, left_next}
use Rattle.writing.specs.Listed.{listed}
use Rattle.writing.specs.Parts.{Parts}
use Rattle.writing.specs.Refusals.{number_of, told}
use Rattle.writing.specs.declared.list.Names.{Names}
use Rattle.writing.specs.declared.WriteRefusal.{WriteRefusal}
use Rattle.writing.specs.declared.WriteRefusal.TheVariants.{EmptyList, NotAName, ResultTooLong, BufferTooShort}

-- ---- limit and buffer

module _ (limit size lent : ℕ) where
  pub fit_over : limit < size → refusal 23 ≡ fitted limit size lent
  unfolding fitted
  fit_over h = rw (lt-ltb limit size h)

  pub fit_short : size ≤ limit → lent < size → refusal 24 ≡ fitted limit size lent
  unfolding fitted
  fit_short h k = rw (le-ltb limit size h, lt-ltb lent size k)

  pub fit_room : size ≤ limit → size ≤ lent → record { answer = 0; length = size } ≡ fitted limit size lent
  unfolding fitted
  fit_room h k = rw (le-ltb limit size h, le-ltb lent size k)

  -- what is written is within the limit and the buffer
  fit_within : (fitted limit size lent).answer ≡ 0 → (size ≤ limit) × (size ≤ lent)
  unfolding fitted
  fit_within e = go (ltb limit size) (ltb lent size) refl refl
    where
      go : (s t : Bool) → ltb limit size ≡ s → ltb lent size ≡ t → (size ≤ limit) × (size ≤ lent)
      go true t f g = absurd (omega (arith, rw f at e))
      go false true f g = absurd (omega (arith, rw (f, g) at e))
      go false false f g = (ltb-false _ _ f, ltb-false _ _ g)

pub ruleset laws = (fit_over, fit_short, fit_room)

-- ---- the whole

no_zero : (r : WriteRefusal) → number_of r ≡ 0 → ⊥
no_zero EmptyList e = omega arith
no_zero NotAName e = omega arith
no_zero ResultTooLong e = omega arith
no_zero BufferTooShort e = omega arith

-- what a writer promises of its answer and of the buffer
abbrev pub Promised : {Name : Type 0} → Writer Name → Request → List ℕ → Result ℕ WriteRefusal → List ℕ → Type 0
Promised W q old r new = (told r ≡ written_by W q (length old)) × (new ≡ buffer_by W q old)

module _ {Name : Type 0} {W : Writer Name} {make : ℕ → List (List ℕ) → Name} {bytes : Name → List ℕ} {head : ℕ → List ℕ} {per limit : ℕ} (P : Parts W make bytes head per limit) (q : Request) (old : List ℕ) where
  stays : (r : WriteRefusal) → told (Err r) ≡ written_by W q (length old) → Promised W q old (Err r) old
  unfolding buffer_by
  stays r e = (e, rw (← e, ne_eqb (number_of r) 0 (no_zero r)))

  pub no_kinds : length q.kinds ≡ 0 → Promised W q old (Err EmptyList) old
  unfolding written_by
  no_kinds h = stays EmptyList (rw (none_is q.kinds h))

  module _ (some : length q.kinds ≡ 0 → ⊥) where
    bad : good_list W q ≡ false → Promised W q old (Err NotAName) old
    unfolding written_by
    bad e = stays NotAName (rw (some_is q.kinds some, e))

    pub disagree : (p : ℕ) → p ≡ per → (r : WriteRefusal) → (r ≡ NotAName) × (agree p q ≡ false) → Promised W q old (Err r) old
    unfolding good_list
    disagree p p_is r e = rw e.0 (bad (rw (P.per_is, ← p_is, e.1)))

    -- the lists agree: these are their names
    module _ (p : ℕ) (p_is : p ≡ per) (names : Names) (same : (names.per ≡ p) × (names.kinds.now ≡ q.kinds) × (names.lengths.now ≡ q.lengths) × (names.texts.now ≡ q.texts)) (agreed : agree p q ≡ true) (g : Bool) (g_is : g ≡ all W.good (asked W (listed names))) where
      same_list : listed names ≡ q
      same_list = λ i. request (same.1 i) (same.2 i) (same.3 i)

      list_is : good_list W q ≡ g
      unfolding good_list
      list_is =
          let a : agree W.per q ≡ true = rw (P.per_is, ← p_is) agreed in
          ap (λ b. b && all W.good (asked W q)) a ∙ rw (← same_list) (sym g_is)

      pub bad_name : g ≡ false → Promised W q old (Err NotAName) old
      bad_name e = bad (list_is ∙ e)

      module _ (so : g ≡ true) where
        abbrev content : List ℕ
        content = run bytes (asked W (listed names))

        result_is : result_of W q ≡ head (length content) ++ content
        unfolding result_of
        result_is = rw same_list (P.written (asked W q))

        result_length : length (result_of W q) ≡ length (head (length content)) + length content
        result_length = ap length result_is ∙ length-append (head (length content)) content

        written_is : written_by W q (length old) ≡ fitted limit (length (head (length content)) + length content) (length old)
        unfolding written_by
        written_is = rw (some_is q.kinds some, list_is, so, result_length, P.limit_is)

        pub too_long : (r : WriteRefusal) → (r ≡ ResultTooLong) × (limit < length content) → Promised W q old (Err r) old
        too_long r e = rw e.0 (stays ResultTooLong (fit_over limit _ (length old) (omega (arith, e.1)) ∙ sym written_is))

        module _ (n size l : ℕ) (n_is : n ≡ length content) (size_is : size ≡ length (head n) + n) (l_is : l ≡ limit) where
          sized : (r : Result ℕ WriteRefusal) → told r ≡ fitted l size (length old) → told r ≡ written_by W q (length old)
          sized r e = e ∙ rw (size_is, n_is, l_is) (sym written_is)

          pub unfit : (r : WriteRefusal) → told (Err r) ≡ fitted l size (length old) → Promised W q old (Err r) old
          unfit r e = stays r (sized (Err r) e)

          module _ (done : ℕ) (e : told (Ok done) ≡ fitted l size (length old)) where
            all_fits : Fits old 0 (result_of W q)
            unfolding Fits
            all_fits =
                let f : size ≤ length old = (fit_within l size (length old) (sym (ap (λ (w : Written). w.answer) e))).1 in
                let k : size ≡ length (head (length content)) + length content = rw (size_is, n_is) in
                omega (arith, f, k, result_length)

            begun : Left old 0 (result_of W q) old 0 (head n ++ content)
            begun = subst (Left old 0 (result_of W q) old 0) (result_is ∙ rw n_is) (left_begin old 0 (result_of W q) all_fits)

            pub fits_head : Fits old 0 (head n)
            fits_head = left_first _ _ _ _ _ _ _ begun

            module _ (b : List ℕ) (at : ℕ) (put : Put old 0 (head n) b at) where
              names_left : Left old 0 (result_of W q) b at content
              names_left = left_next _ _ _ _ _ _ _ begun b at put

              pub fits_names : Fits b at content
              fits_names = names_left.fits

              pub all_put : (new : List ℕ) (next : ℕ) → Put b at content new next → Promised W q old (Ok done) new
              unfolding buffer_by Put pasted
              all_put new next p =
                  let whole : Put old 0 (result_of W q) new next = names_left.leads new next p in
                  let w : told (Ok done) ≡ written_by W q (length old) = sized (Ok done) e in
                  (w, rw (← w) (whole.0 ∙ rw zero-add))
