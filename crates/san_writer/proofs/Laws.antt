-- A name by its kind: whether it is taken, how long it is, and how it is put. The functions' proofs search these laws.
use Prim.Native.Nat.{ℕ, ◌+◌}
use mathlib.Core.Path.{◌≡◌, sym, subst, ◌∙◌}
use mathlib.Core.Bool.{Bool, true, false, and-false}
use mathlib.Core.List.{List}
use lib.ListN.{length}
use borrow.Author.Tests.{eq-eqb, ne_eqb}
use Rattle.rules.specs.Bytes.{ascii, cut, sum}
use Rattle.rules.specs.Names.{dns_id, srv_id, uri_id}
use Rattle.rules.specs.Der.{element}
use Rattle.rules.specs.San.{other, srv_oid, write_name}
use Rattle.rules.specs.Writing.{Identifier, identifier, id_of_kind, good_identifier}
use Rattle.output.specs.Output.{Fits, Put, start, element_size}
use Rattle.san_writer.specs.Names.{identifier_of, identifier_bytes, name_size}
use Rattle.san_writer.specs.Measuring.{name_dns, name_srv, name_uri, name_length}
use Rattle.san_writer.specs.Parts.{of_one}

pub whole_long : (n r : ℕ) → r ≡ element_size n → r ≡ length (start 0x30 n) + n
unfolding element_size start
whole_long n r e = e

module _ (kind : ℕ) (ns t : List ℕ) (many : length ns ≡ 1) (whole : sum ns ≡ length t) where
  abbrev this : Identifier
  this = identifier_of kind (cut ns t)

  is : this ≡ identifier kind t
  is = of_one kind ns t many whole

  -- ---- whether it is taken

  module _ (r : Bool) (a : Bool) (plain : a ≡ ascii t) where
    pub not_ascii : a ≡ false → a ≡ good_identifier this
    unfolding good_identifier
    not_ascii e = rw (is, ← plain, e)

    module _ (so : a ≡ true) where
      pub taken_dns : kind ≡ 1 → r ≡ dns_id t → r ≡ good_identifier this
      unfolding good_identifier id_of_kind
      taken_dns k e = rw (is, ← plain, so, eq-eqb _ _ k) e

      pub taken_srv : kind ≡ 2 → r ≡ srv_id t → r ≡ good_identifier this
      unfolding good_identifier id_of_kind
      taken_srv k e = rw (is, ← plain, so, k) e

      pub taken_uri : kind ≡ 3 → r ≡ uri_id t → r ≡ good_identifier this
      unfolding good_identifier id_of_kind
      taken_uri k e = rw (is, ← plain, so, k) e

  pub taken_none : (kind ≡ 1 → ⊥) → (kind ≡ 2 → ⊥) → (kind ≡ 3 → ⊥) → false ≡ good_identifier this
  unfolding good_identifier id_of_kind
  taken_none n m k = rw (is, ne_eqb _ _ n, ne_eqb _ _ m, ne_eqb _ _ k) (sym (and-false (ascii t)))

  -- ---- how long it is

  module _ (r : ℕ) where
    long : r ≡ name_size kind (length t) → r ≡ length (identifier_bytes this)
    unfolding identifier_bytes
    long e = rw is (e ∙ sym (name_length kind t))

    pub srv_long : kind ≡ 2 → (i w : ℕ) → i ≡ element_size (length t) → w ≡ element_size i → r ≡ element_size (10 + w) → r ≡ length (identifier_bytes this)
    unfolding name_size
    srv_long k i w e f g = long (rw (eq-eqb _ _ k, ← e, ← f) g)

    pub plain_long : (kind ≡ 2 → ⊥) → r ≡ element_size (length t) → r ≡ length (identifier_bytes this)
    unfolding name_size
    plain_long k e = long (rw (ne_eqb _ _ k) e)

  -- ---- how it is put

  bytes_dns : kind ≡ 1 → identifier_bytes this ≡ element 0x82 t
  unfolding identifier_bytes
  bytes_dns k = rw is (name_dns kind t k)

  bytes_srv : kind ≡ 2 → identifier_bytes this ≡ write_name (other srv_oid 0x16 t)
  unfolding identifier_bytes
  bytes_srv k = rw is (name_srv kind t k)

  bytes_uri : (kind ≡ 1 → ⊥) → (kind ≡ 2 → ⊥) → identifier_bytes this ≡ element 0x86 t
  unfolding identifier_bytes
  bytes_uri n k = rw is (name_uri kind t n k)

  module _ (b : List ℕ) (at : ℕ) where
    pub fits_dns : kind ≡ 1 → Fits b at (identifier_bytes this) → Fits b at (element 0x82 t)
    fits_dns k = subst (Fits b at) (bytes_dns k)

    pub fits_srv : kind ≡ 2 → Fits b at (identifier_bytes this) → Fits b at (write_name (other srv_oid 0x16 t))
    fits_srv k = subst (Fits b at) (bytes_srv k)

    pub fits_uri : (kind ≡ 1 → ⊥) → (kind ≡ 2 → ⊥) → Fits b at (identifier_bytes this) → Fits b at (element 0x86 t)
    fits_uri n k = subst (Fits b at) (bytes_uri n k)

    module _ (b' : List ℕ) (at' : ℕ) where
      pub put_dns : kind ≡ 1 → Put b at (element 0x82 t) b' at' → Put b at (identifier_bytes this) b' at'
      put_dns k p = rw (bytes_dns k) p

      pub put_srv_lem : kind ≡ 2 → Put b at (write_name (other srv_oid 0x16 t)) b' at' → Put b at (identifier_bytes this) b' at'
      put_srv_lem k p = rw (bytes_srv k) p

      pub put_uri : (kind ≡ 1 → ⊥) → (kind ≡ 2 → ⊥) → Put b at (element 0x86 t) b' at' → Put b at (identifier_bytes this) b' at'
      put_uri n k p = rw (bytes_uri n k) p

pub ruleset laws = (
  whole_long,
  not_ascii,
  taken_dns,
  taken_srv,
  taken_uri,
  taken_none,
  srv_long,
  plain_long,
  fits_dns,
  fits_srv,
  fits_uri,
  put_dns,
  put_srv_lem,
  put_uri,
)
