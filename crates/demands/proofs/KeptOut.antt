-- A dNSName that breaks no string matches no domain in an excluded dNSName subtree.
use Prim.Native.Nat.{ℕ}
use mathlib.Core.Path.{refl}
use mathlib.Core.Logic.{inl, inr}
use mathlib.Core.List.{List}
use native.Mathlib.Omega.{arith}
use lib.Dec.{T}
use Rattle.rules.specs.Names.{wildcard, dns_matches, dns_within, dns_reaches}
use Rattle.rules.specs.Der.{Member}
use Rattle.rules.specs.San.{GeneralName, plain}
use Rattle.rules.specs.Constraints.{excluded}
use Rattle.rules.proofs.Cases.{by_cases, is_true, holds}
use Rattle.rules.proofs.KeptOut as rules
use Rattle.demands.specs.Issuers.{Excluded, BreaksNone, KeptOut}
use Rattle.demands.proofs.Breaking.{breaks_string}

module _ (strings : List (List (Member GeneralName))) (t e : List ℕ) (n : BreaksNone strings t) (x : Excluded strings e) where
  -- a dNSName that breaks no string breaks no excluded subtree of any
  unreached : ¬ T (dns_reaches e t)
  unreached h =
      n x.issuer x.string x.string_at_lem
      (((breaks_string x.string (plain 0x82 t)).dns t refl).1
      (record { some_subtree = (excluded, e, omega arith, x.excluded_there); not_allowed = inr (inl (e, x.excluded_there, h)) }))

  matches_none : T (wildcard t) → (d : List ℕ) → T (dns_within e d) → ¬ T (dns_matches d t)
  matches_none w d i m =
      by_cases (dns_reaches e t) (λ h. unreached (holds _ h))
      (λ h. rules.kept_out t e d (is_true _ w) h (is_true _ i) (is_true _ m))

pub kept_out : (strings : List (List (Member GeneralName))) (text subtree : List ℕ) → KeptOut strings text subtree
kept_out strings t e = record {
  wildcard_kept_out = λ w n x d g i. matches_none strings t e n x w d i;
  plain_kept_out = λ g n x i. unreached strings t e n x (holds _ (rules.reaches_inside t e (is_true _ i)));
}
