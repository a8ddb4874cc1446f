-- What a presented text matches, by its first two bytes: a wildcard what stands past the reference's first label, any
-- other text the whole reference.
use Prim.Native.Nat.{ℕ}
use mathlib.Core.Path.{◌≡◌, refl, sym, ap, ◌∙◌}
use mathlib.Core.List.{List, [], ◌∷◌}
use mathlib.Core.Bool.{Bool, true, false, ◌&&◌, and-true, and-false, and_comm, or-false, and-eq-true_iff, true≢false, false≢true}
use native.Mathlib.Omega.{arith}
use lib.ListN.{length, drop}
use lib.Dec.{eqb, leb, leb-suc-suc}
use borrow.Author.Tests.{eqb-true}
use Rattle.octets.proofs.Cases.{by_cases}
use Rattle.octets.proofs.Compare.{same_equal}
use Rattle.names.proofs.Labels.{others, labels_are, same_domain_lem}
use Rattle.names.proofs.Runs.{run_stops}
use Rattle.rules.proofs.Labels.{domain_first}
use Rattle.rules.specs.Bytes.{any, same, begins, before, after}
use Rattle.rules.specs.Names as rules
use Rattle.rules.specs.Names.{is, star, dot, label, labels, domain, same_text, same_labels, same_domain, wildcard, dns_id, leftmost_matches, labels_match, dns_matches}
use Rattle.names.specs.Label.{outside}
use Rattle.dns.specs.Wildcard.{wild_domain, past_first, wild_matches}

-- s begins with "*."
abbrev pub wild : List ℕ → Bool
wild s = begins (star ∷ dot ∷ []) s

-- the text of a wildcard
pub wild_is : (s : List ℕ) → wild s ≡ true → s ≡ star ∷ dot ∷ drop 2 s
unfolding begins
wild_is [] e = absurd (false≢true e)
wild_is (x ∷ []) e = absurd (false≢true (sym (and-false (eqb star x)) ∙ e))
wild_is (x ∷ y ∷ t) e =
    let both = (and-eq-true_iff (eqb star x) (eqb dot y && true)).0 e in
    let second = (and-eq-true_iff (eqb dot y) true).0 both.1 in
    rw (← eqb-true star x both.0, ← eqb-true dot y second.0)

-- a text that begins with a star is no domain
pub star_first : (t : List ℕ) → domain (star ∷ t) ≡ false
unfolding before outside rules.letter_digit_hyphen rules.letter rules.digit
star_first t = sym (run_stops (star ∷ t) 0 refl (omega arith) (λ e. omega arith))

-- and a star is no label
star_label : label (star ∷ []) ≡ false
unfolding label rules.ldh rules.letter_digit_hyphen rules.letter rules.digit
star_label = refl

-- the labels of a wildcard against those of a reference
wild_labels : (reference t : List ℕ) → labels_match (labels (star ∷ dot ∷ t)) (labels reference) ≡ past_first reference t
unfolding labels_match leftmost_matches labels rules.longer same_labels same past_first others same_domain
wild_labels reference t =
    rw (labels_are reference)
    (by_cases (any (is dot) reference) (λ e. rw e (same_domain_lem t (after (is dot) reference))) (λ e. rw (e, labels_are t)))

-- the labels of a domain against those of a reference
plain_labels : (reference text : List ℕ) → domain text ≡ true
    → labels_match (labels text) (labels reference) ≡ same_text text reference
unfolding labels_match leftmost_matches same_domain same_labels
plain_labels reference text e =
    let no_star : same (before (is dot) text) (star ∷ []) ≡ false =
    by_cases (same (before (is dot) text) (star ∷ []))
    (λ f. absurd (true≢false (sym (domain_first text e) ∙ ap label (same_equal _ _ f) ∙ star_label))) (λ f. f) in
    rw (labels_are text, labels_are reference, no_star)
    (rw (labels_are text, labels_are reference) at (same_domain_lem text reference))

wild_id_of : (t : List ℕ) → dns_id (star ∷ dot ∷ t) ≡ wild_domain t
unfolding dns_id wildcard wild_domain begins
wild_id_of t =
    let short : leb (length (star ∷ dot ∷ t)) 253 ≡ leb (length t) 251 =
    leb-suc-suc (length (dot ∷ t)) 252 ∙ leb-suc-suc (length t) 251 in
    rw (star_first (dot ∷ t), short, and-true)

-- a DNS-ID, by its first two bytes
module _ (s : List ℕ) where
  pub wild_id : wild s ≡ true → dns_id s ≡ wild_domain (drop 2 s)
  wild_id e = ap dns_id (wild_is s e) ∙ wild_id_of (drop 2 s)

  pub plain_id : wild s ≡ false → dns_id s ≡ domain s
  unfolding dns_id wildcard
  plain_id e = rw (e, and-false) (or-false (domain s))

-- a match, by the presented text's first two bytes
module _ (reference text : List ℕ) where
  pub wild_matches_lem : wild text ≡ true → dns_matches reference text ≡ wild_matches reference (drop 2 text)
  unfolding dns_matches wild_matches
  wild_matches_lem e =
      let past = ap (λ u. labels_match (labels u) (labels reference)) (wild_is text e) ∙ wild_labels reference (drop 2 text) in
      rw (wild_id text e, past) (and_comm (wild_domain (drop 2 text)) (past_first reference (drop 2 text)))

  pub plain_matches : wild text ≡ false → dns_matches reference text ≡ same_text text reference && domain text
  unfolding dns_matches
  plain_matches e =
      by_cases (domain text)
      (λ d. rw (plain_id text e, d, plain_labels reference text d) (sym (and-true (same_text text reference))))
      (λ d. rw (plain_id text e, d) (sym (and-false (same_text text reference))))
