-- The viewer of each string does what request 3/13 says.
use Prim.Native.Nat.{ℕ, ◌≤◌, ◌<◌}
use mathlib.Core.Path.{◌≡◌, refl, sym, ap, subst, ◌∙◌}
use mathlib.Core.Logic.{◌↔◌, ◌≢◌, inl, inr}
use mathlib.Core.Option.{some}
use Rattle.std.specs.Prelude.{Some}
use mathlib.Core.List.{List, []}
use native.Mathlib.Omega.{arith}
use lib.ListN.{length, get_elem?}
use lib.Dec.{T}
use Rattle.rules.specs.Seen.{Seen, too_long, unreadable, listed, Sees}
use Rattle.rules.specs.Listing.{rows_seen}
use Rattle.rules.specs.Viewer.{row_or_end, view_of, opening_of, opening_at}
use Rattle.rules.specs.declared.Row.{Row}
use Rattle.reading.specs.Calls.{seen_rows, opening_on, view_on}
use Rattle.reading.specs.Laid.{Laid}
use Rattle.reading.proofs.Laid.{rows_laid}
use Rattle.demands.specs.Statements.{CertificateString, string_of}
use Rattle.demands.specs.Viewing.{opening_answers, shows, end_at, FirstFrom, NoneFrom, nth_at, nth_row, Viewing}
use Rattle.demands.proofs.Order.{Chosen, each_exactly}
use Rattle.demands.proofs.Listings.{Lists, lists, seen_rows_lem}
use Rattle.demands.proofs.Paging.{shows_first, shows_none, pages, pages_end}

-- no row is shown of a string that is refused
refused_ends : (refusal : ℕ) (x : Seen Row) → opening_of refusal x ≢ 0 → (at : ℕ) → view_of x at ≡ end_at at
unfolding opening_of view_of row_or_end
refused_ends refusal too_long n at = refl
refused_ends refusal unreadable n at = refl
refused_ends refusal (listed rows) n at = absurd (n refl)

module _ (which : ℕ) (S : CertificateString) (L : Lists which S) where
  -- the row of the table of answers that is given
  chosen : (b : List ℕ) → Chosen (opening_answers S b) (opening_on which b)
  unfolding rows_seen opening_of
  chosen b = subst (Chosen (opening_answers S b)) (sym answer_is) (go (L.seen b) (L.faithful.sees b))
    where
      answer_is : opening_on which b ≡ opening_of S.refusal (rows_seen S.input.grammar (L.seen b))
      answer_is = ap (λ n. opening_of n (seen_rows which b)) L.refusal_is ∙ ap (opening_of S.refusal) (L.rows_are b)

      low : 0 < S.refusal
      low = L.low

      high : S.refusal < 7
      high = L.high

      go : (x : Seen S.Name) → Sees S.input b x → Chosen (opening_answers S b) (opening_of S.refusal (rows_seen S.input.grammar x))
      go too_long s = inl (s, refl, omega (arith, low, high))
      go unreadable s = inr (omega (arith, s.0), omega (arith, high), inl (s.1, refl, omega (arith, low)))
      go (listed l) s = inr (omega (arith, s.0), omega arith, inr (λ u. u l s.1, omega (arith, low), inl (tt, refl, tt)))

  module _ (b : List ℕ) (l : List S.Name) (s : Sees S.input b (listed l)) where
    seen_is : listed (S.input.grammar.rows l) ≡ seen_rows which b
    seen_is = sym (seen_rows_lem which S L b l s)

    laid : Laid 0 (length b) (S.input.grammar.rows l)
    laid = rows_laid which b (S.input.grammar.rows l) (sym seen_is)

    first : (at : ℕ) (r : Row) → view_on which b at ≡ shows r ↔ FirstFrom at (S.input.grammar.rows l) r
    first at r = subst (λ x. view_of x at ≡ shows r ↔ FirstFrom at (S.input.grammar.rows l) r) seen_is (shows_first (S.input.grammar.rows l) at r)

    none_left : (at : ℕ) → view_on which b at ≡ end_at at ↔ NoneFrom at (S.input.grammar.rows l)
    none_left at = subst (λ x. view_of x at ≡ end_at at ↔ NoneFrom at (S.input.grammar.rows l)) seen_is (shows_none (S.input.grammar.rows l) at)

    in_order : (i : ℕ) (r : Row) → get_elem? (S.input.grammar.rows l) i ≡ some r → nth_row (view_on which b) opening_at i ≡ Some r
    in_order i r g = subst (λ x. nth_row (view_of x) opening_at i ≡ Some r) seen_is (pages (S.input.grammar.rows l) laid i r g)

    then_end : (i : ℕ) → length l ≤ i → view_on which b (nth_at (view_on which b) opening_at i) ≡ end_at (nth_at (view_on which b) opening_at i)
    then_end i h =
        let k = L.one_each l in
        subst (λ x. view_of x (nth_at (view_of x) opening_at i) ≡ end_at (nth_at (view_of x) opening_at i)) seen_is
        (pages_end (S.input.grammar.rows l) laid i (omega arith))

  absent : T S.input.optional → (opening_on which [] ≡ 0) × (view_on which [] opening_at ≡ end_at opening_at)
  unfolding opening_of nth_at
  absent t =
      let s : Sees S.input [] (listed []) = (omega arith, inr (t, refl, refl)) in
      (ap (opening_of _) (sym (seen_is [] [] s)), then_end [] [] s 0 (omega arith))

  viewed : Viewing which S
  viewed = record {
    order = λ b. each_exactly [] (opening_answers S b) _ tt (chosen b);
    first = first;
    none_left = none_left;
    refused = λ b. refused_ends _ (seen_rows which b);
    in_order = in_order;
    then_end = then_end;
    absent = absent;
  }

-- of every number
pub viewings : (which : ℕ) → Viewing which (string_of which)
viewings which = viewed which (string_of which) (lists which)
