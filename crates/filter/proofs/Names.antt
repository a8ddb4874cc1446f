-- A reference whose keys are not noted matches no dNSName that is noted.
use Prim.Native.Nat.{ℕ}
use mathlib.Core.Path.{◌≡◌, refl, sym}
use mathlib.Core.Bool.{true, false, true≢false}
use mathlib.Core.Option.{Option, none, some}
use mathlib.Core.List.{List, [], ◌∷◌}
use lib.ListN.{drop}
use Rattle.rules.specs.Bytes.{any, find, after}
use Rattle.rules.specs.Names.{is, dot, same_text, dns_matches, where_given}
use Rattle.rules.specs.Numbers.{dns_kind}
use Rattle.rules.specs.Records.{Reference}
use Rattle.rules.specs.San.{GeneralName}
use Rattle.rules.specs.Matching.{tagged_text, entry_text, presented_in, text_matches, if_some, matches}
use Rattle.rules.specs.declared.Row.{Row}
use Rattle.octets.proofs.Cases.{by_cases, and_left, and_right, fails, clash}
use Rattle.dns.specs.Wildcard.{past_first, wild_matches}
use Rattle.dns.proofs.Matching.{wild, wild_matches_lem, plain_matches}
use Rattle.filter.specs.Keys.{key_of, has, noted_text, has_name, has_all, may_match}
use Rattle.filter.proofs.Keys.{same_key}

module _ (table : List ℕ) where
  -- a text that is noted is not the same as one that is not
  other_text : (a b : List ℕ) → has table (key_of a) ≡ true → has table (key_of b) ≡ false → same_text a b ≡ false
  other_text a b p q = sym (fails (same_text a b) (λ e. clash (rw (same_key a b e) at p) q))

  module _ (reference : List ℕ) (skip : may_match table reference ≡ false) where
    whole : has table (key_of reference) ≡ false
    unfolding may_match
    whole = sym (fails (has table (key_of reference)) (λ e. true≢false (rw e at skip)))

    rest : any (is dot) reference ≡ true → has table (key_of (after (is dot) reference)) ≡ false
    unfolding may_match
    rest e = rw (whole, e) at skip

    -- a dNSName that is noted
    text_skipped : (text : List ℕ) → has table (key_of (noted_text text)) ≡ true → dns_matches reference text ≡ false
    unfolding noted_text past_first wild_matches
    text_skipped text e =
        by_cases (wild text)
        (λ w.
        rw (wild_matches_lem reference text w)
        (by_cases (any (is dot) reference)
        (λ d. rw (d, other_text (drop 2 text) (after (is dot) reference) (rw w at e) (rest d))) (λ d. rw d)))
        (λ w. rw (plain_matches reference text w, other_text text reference (rw w at e) whole))

    -- no name presents a text that matches
    pub skipped : (r : Reference) → r.kind ≡ dns_kind → r.domain ≡ reference → (rows : List Row) (names : List GeneralName)
        → has_all table names ≡ true → find (matches r) (presented_in (entry_text dns_kind) rows names) ≡ none
    unfolding has_all has_name presented_in entry_text matches text_matches
    skipped r k d [] names e = refl
    skipped r k d (row ∷ rows) [] e = refl
    skipped r k d (row ∷ rows) (n ∷ names) e =
        let here = and_left (has_name table n) (has_all table names) e in
        rw (go (tagged_text 0x82 n) here) (skipped r k d rows names (and_right (has_name table n) (has_all table names) e))
      where
        go : (o : Option (List ℕ)) → where_given o (λ text. has table (key_of (noted_text text))) ≡ true → if_some o (text_matches r) ≡ false
        go none p = refl
        go (some text) p = rw (k, d) (text_skipped text p)
