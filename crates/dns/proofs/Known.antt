-- What a presented text matches where the reference is known to be a domain: what is the same without case is not looked at again.
use Prim.Native.Nat.{ℕ, ◌+◌, ◌-◌, ◌<◌, ◌≤◌}
use mathlib.Core.Path.{◌≡◌, sym, ap, ◌∙◌}
use mathlib.Core.List.{List, [], ◌∷◌}
use mathlib.Core.Bool.{Bool, true, false, false≢true}
use native.Mathlib.Omega.{arith}
use lib.ListN.{length, drop, length-drop}
use borrow.Author.Tests.{le-leb, ltb-true}
use Rattle.octets.proofs.Cases.{by_cases, and_left, and_right, fails}
use Rattle.octets.proofs.Compare.{text_length_lem}
use Rattle.octets.proofs.Place.{part_after, one_passes}
use Rattle.octets.proofs.Cut as cut
use Rattle.names.proofs.Labels.{two_labels_lem}
use Rattle.names.proofs.Folded.{same_domains}
use Rattle.rules.proofs.Labels.{domain_short, domain_first, domain_past}
use Rattle.rules.specs.Bytes.{any, before, after}
use Rattle.rules.specs.Names.{is, dot, label, ldh, domain, same_text, dns_matches}
use Rattle.dns.specs.Wildcard.{wild_domain, past_first, wild_matches}
use Rattle.dns.proofs.Matching.{wild, plain_matches}

module _ (text t : List ℕ) where
  -- a text that is one label and then t has its first dot as many bytes before its end as t has, and one more
  pub first_at : past_first text t ≡ true → (length t < length text) × (length text - length t - 1 ≡ length (before (is dot) text))
  unfolding past_first
  first_at e =
      let some_dot = and_left (any (is dot) text) (same_text t (after (is dot) text)) e in
      let same = and_right (any (is dot) text) (same_text t (after (is dot) text)) e in
      let within : length (before (is dot) text) < length text = ltb-true _ _ (sym (cut.any_is (is dot) text) ∙ some_dot) in
      let rest : length (after (is dot) text) ≡ length text - (length (before (is dot) text) + 1) =
      ap length (sym (cut.drop_after (is dot) text)) ∙ length-drop (length (before (is dot) text) + 1) text in
      let long = text_length_lem t (after (is dot) text) same in
      (omega arith, omega arith)

-- no label is empty
label_some : (l : List ℕ) → label l ≡ true → 1 ≤ length l
unfolding label ldh
label_some [] e = absurd (false≢true e)
label_some (x ∷ l) e = omega arith

module _ (reference : List ℕ) (good : domain reference ≡ true) where
  -- what is the same as what stands past the first dot of a domain is a domain, and short enough to stand past `*.`
  past_wild : (t : List ℕ) → past_first reference t ≡ true → wild_domain t ≡ any (is dot) t
  unfolding past_first wild_domain
  past_wild t e =
      let some_dot = and_left (any (is dot) reference) (same_text t (after (is dot) reference)) e in
      let same = and_right (any (is dot) reference) (same_text t (after (is dot) reference)) e in
      let first = domain_first reference good in
      let short = domain_short reference good in
      let long = label_some (before (is dot) reference) first in
      let at = first_at reference t e in
      let is_domain : domain t ≡ true =
      same_domains t (after (is dot) reference) same ∙ sym (domain_past reference some_dot first short) ∙ good in
      rw (le-leb (length t) 251 (omega (arith, at.0, at.1)), is_domain, two_labels_lem t)

  module _ (first : ℕ) (is_first : first ≡ length (before (is dot) reference)) (t : List ℕ) where
    pub known_length : (length reference - first ≡ length t + 1 → ⊥) → false ≡ wild_matches reference t
    unfolding wild_matches
    known_length n =
        fails (wild_matches reference t)
        (λ e. let at = first_at reference t (and_left (past_first reference t) (wild_domain t) e) in n (omega (arith, at.0, at.1)))

    module _ (h : length reference - first ≡ length t + 1) (past : List ℕ) (is_past : past ≡ drop (first + 1) reference)
        (same : Bool) (is_same : same ≡ same_text t past) where
      past_same : past_first reference t ≡ same
      unfolding past_first
      past_same =
          rw (one_passes (is dot) reference first is_first (omega arith), ← part_after (is dot) reference first is_first, ← is_past) (sym is_same)

      pub known_other : same ≡ false → false ≡ wild_matches reference t
      unfolding wild_matches
      known_other e = rw (past_same, e)

      pub known_same : same ≡ true → (r : Bool) → r ≡ any (is dot) t → r ≡ wild_matches reference t
      unfolding wild_matches
      known_same e r f =
          let p = past_same ∙ e in
          f ∙ sym (past_wild t p) ∙ rw p

  pub known_plain : (text : List ℕ) → wild text ≡ false → dns_matches reference text ≡ same_text text reference
  known_plain text e =
      plain_matches reference text e ∙ by_cases (same_text text reference) (λ s. rw (s, same_domains text reference s, good)) (λ s. rw s)
