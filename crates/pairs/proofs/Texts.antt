-- A text held against a reference.
use Prim.Native.Nat.{ℕ, ◌+◌, ◌-◌}
use mathlib.Core.Path.{◌≡◌}
use mathlib.Core.Bool.{Bool, true, ◌&&◌}
use mathlib.Core.List.{List}
use native.Mathlib.Omega.{arith}
use lib.ListN.{take, drop}
use Rattle.rules.proofs.Cases.{and_left, and_right}
use Rattle.rules.specs.Bytes.{part}
use Rattle.rules.specs.Names.{domain, two_labels, service, scheme, dns_matches, srv_matches, uri_matches}
use Rattle.rules.specs.Records.{reference, good_service, good_reference}
use Rattle.rules.specs.Matching.{text_matches}

-- ---- the parts of a good reference

module _ (kind : ℕ) (v d : List ℕ) (g : good_reference (reference kind v d) ≡ true) where
  fit : good_service kind v ≡ true
  unfolding good_reference
  fit = and_left _ (domain d) (and_left (good_service kind v && domain d) (two_labels d) g)

  pub domain_good : domain d ≡ true
  unfolding good_reference
  domain_good = and_right (good_service kind v) _ (and_left (good_service kind v && domain d) (two_labels d) g)

pub service_good : (v d : List ℕ) → good_reference (reference 2 v d) ≡ true → service v ≡ true
unfolding good_service
service_good v d g = fit 2 v d g

pub scheme_good : (v d : List ℕ) → good_reference (reference 3 v d) ≡ true → scheme v ≡ true
unfolding good_service
scheme_good v d g = fit 3 v d g

-- ---- a text held against it

module _ (v d text : List ℕ) (r : Bool) where
  pub text_srv : r ≡ srv_matches v d text → r ≡ text_matches (reference 2 v d) text
  unfolding text_matches
  text_srv e = e

  pub text_uri : r ≡ uri_matches v d text → r ≡ text_matches (reference 3 v d) text
  unfolding text_matches
  text_uri e = e

  pub text_dns : r ≡ dns_matches d text → r ≡ text_matches (reference 1 v d) text
  unfolding text_matches
  text_dns e = e

  pub text_cn : r ≡ dns_matches d text → r ≡ text_matches (reference 4 v d) text
  unfolding text_matches
  text_cn e = e

-- ---- a text by its place

pub part_at : (s : List ℕ) (start len : ℕ) → take (start + len - start) (drop start s) ≡ part s start len
unfolding part
part_at s start len = let m : start + len - start ≡ len = omega arith in rw m
