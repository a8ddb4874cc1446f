-- dNSName subtrees, by the tests that the code makes.
use Prim.Native.Nat.{ℕ}
use mathlib.Core.Path.{◌≡◌, refl, sym, ap, ◌∙◌}
use mathlib.Core.List.{List, [], ◌∷◌}
use mathlib.Core.Bool.{Bool, true, false, ◌||◌, and-false, or-false}
use native.Mathlib.Omega.{arith}
use lib.ListN.{length, drop}
use Rattle.octets.proofs.Cases.{by_cases}
use Rattle.names.proofs.Labels.{others, labels_are, same_domain_lem}
use Rattle.rules.proofs.SameLabels.{last_none}
use Rattle.rules.specs.Bytes.{any, after}
use Rattle.rules.specs.Names.{is, dot, domain, labels, same_labels, same_domain, domain_within, wildcard, dns_id, dns_restriction, subtree_labels, dns_within, one_label_then, dns_reaches}
use Rattle.dns.specs.Wildcard.{past_first}
use Rattle.dns.proofs.Matching.{wild, wild_is, star_first}

-- ---- an empty subtree, and another

pub restriction_empty : (s : List ℕ) → length s ≡ 0 → true ≡ dns_restriction s
unfolding dns_restriction
restriction_empty [] e = refl
restriction_empty (x ∷ s) e = absurd (omega arith)

pub restriction_domain : (s : List ℕ) → (length s ≡ 0 → ⊥) → (r : Bool) → r ≡ domain s → r ≡ dns_restriction s
unfolding dns_restriction
restriction_domain [] h r e = absurd (h refl)
restriction_domain (x ∷ s) h r e = e

pub within_every : (s name : List ℕ) → length s ≡ 0 → true ≡ dns_within s name
unfolding dns_within subtree_labels
within_every [] name e = sym (last_none (labels name))
within_every (x ∷ s) name e = absurd (omega arith)

pub within_some : (s name : List ℕ) → (length s ≡ 0 → ⊥) → (r : Bool) → r ≡ domain_within s name → r ≡ dns_within s name
unfolding dns_within subtree_labels domain_within
within_some [] name h r e = absurd (h refl)
within_some (x ∷ s) name h r e = e

-- ---- one label and then the text

-- by bytes: what stands past the first dot is the text
one_label : (t subtree : List ℕ) → one_label_then t subtree ≡ past_first subtree t
unfolding one_label_then past_first others same_domain same_labels
one_label t subtree =
    rw (labels_are subtree)
    (by_cases (any (is dot) subtree) (λ e. rw e (same_domain_lem t (after (is dot) subtree))) (λ e. rw (e, labels_are t)))

-- an identifier that lies in no subtree reaches one if it is a wildcard
module _ (subtree name : List ℕ) where
  pub reaches_wild : dns_id name ≡ true → wild name ≡ true → dns_reaches subtree name ≡ dns_within subtree name || past_first subtree (drop 2 name)
  unfolding dns_reaches dns_id
  reaches_wild i e =
      let w : wildcard name ≡ true = rw (ap domain (wild_is name e) ∙ star_first (dot ∷ drop 2 name)) at i in
      rw (w, one_label)

  pub reaches_plain : wild name ≡ false → dns_reaches subtree name ≡ dns_within subtree name
  unfolding dns_reaches wildcard
  reaches_plain e = rw (e, and-false) (or-false (dns_within subtree name))
