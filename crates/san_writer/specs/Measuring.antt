-- How long a name is as it is written, by its kind.
use Prim.Native.Nat.{ℕ, ◌+◌, ◌≤◌}
use mathlib.Core.Path.{◌≡◌, refl}
use mathlib.Core.List.{List}
use native.Mathlib.Omega.{arith}
use lib.ListN.{length, length-append}
use lib.Dec.{eqb}
use borrow.Author.Tests.{eq-eqb, ne_eqb, eqb-true, eqb-false}
use Rattle.rules.specs.Numbers.{dns_kind, srv_kind}
use Rattle.rules.specs.Der.{length_bytes, element}
use Rattle.rules.specs.San.{other, srv_oid, tag_of, content_of, write_name}
use Rattle.rules.specs.Writing.{identifier, name_for}
use Rattle.rules.proofs.Cases.{by_cases}
use Rattle.output.specs.Output.{element_size}
use Rattle.output.proofs.Laws.{element_length}
use Rattle.san_writer.specs.Names.{name_size}

-- ---- one name

pub size_within : (n : ℕ) → n ≤ element_size n
unfolding element_size
size_within n = omega arith

-- a name is no shorter than its text
pub name_within : (kind n : ℕ) → n ≤ name_size kind n
unfolding name_size
name_within kind n =
    let a = size_within n in
    let b = size_within (element_size n) in
    let c = size_within (10 + element_size (element_size n)) in
    by_cases (eqb kind srv_kind) (λ e. rw e (omega arith)) (λ e. rw e (omega arith))

pub oid_long : length (element 0x06 srv_oid) ≡ 10
unfolding element length_bytes
oid_long = refl

-- as it is written
module _ (kind : ℕ) (t : List ℕ) where
  pub name_dns : kind ≡ 1 → write_name (name_for (identifier kind t)) ≡ element 0x82 t
  unfolding name_for write_name tag_of content_of
  name_dns e = rw (eq-eqb _ _ e)

  pub name_srv : kind ≡ 2 → write_name (name_for (identifier kind t)) ≡ write_name (other srv_oid 0x16 t)
  unfolding name_for
  name_srv e = rw e

  pub name_uri : (kind ≡ 1 → ⊥) → (kind ≡ 2 → ⊥) → write_name (name_for (identifier kind t)) ≡ element 0x86 t
  unfolding name_for write_name tag_of content_of
  name_uri e f = rw (ne_eqb _ _ e, ne_eqb _ _ f)

  srv_length : length (write_name (other srv_oid 0x16 t)) ≡ element_size (10 + element_size (element_size (length t)))
  unfolding write_name tag_of content_of
  srv_length = rw (element_length, length-append, oid_long, element_length, element_length)

  pub name_length : length (write_name (name_for (identifier kind t))) ≡ name_size kind (length t)
  unfolding name_size
  name_length =
      by_cases (eqb kind srv_kind) (λ e. rw (name_srv (eqb-true _ _ e), e) srv_length)
      (λ e. by_cases (eqb kind dns_kind) (λ f. rw (name_dns (eqb-true _ _ f), e) (element_length _ t))
      (λ f. rw (name_uri (eqb-false _ _ f) (eqb-false _ _ e), e) (element_length _ t)))
