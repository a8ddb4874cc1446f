-- A record that is made of a reference: it says that reference, and its reader takes it exactly where the reference is good.
use Prim.Native.Nat.{ℕ, zero, suc, ◌-◌, ◌*◌, ◌≤◌}
use Rattle.std.specs.Prelude.{◌≡◌, true, ◌&&◌, ◌||◌, List, [], ◌∷◌, ◌++◌, get_or, drop, replicate, eqb, leb}
use Rattle.std.proofs.Math.Path.{refl, ap}
use Rattle.std.proofs.Common.{sym, ◌∙◌, append_assoc, append-nil, arith, length-append, take_all, le-leb, leb-true, eqb-true}
use Rattle.std.proofs.Math.ListN.{length, take}
use Rattle.std.proofs.lemmas.List.{length-replicate}
use Rattle.std.proofs.Math.Seq.{take-append_seam, drop-append_seam, take_at, drop_at}
use Rattle.rules.specs.Bytes.{part, all, some?}
use Rattle.rules.specs.Numbers.{record_size, service_size, domain_size, dns_kind, srv_kind, uri_kind, cn_kind}
use Rattle.rules.specs.Names.{ldh, domain, service, scheme}
use Rattle.rules.specs.Records.{Reference, reference_of, filled, good_service, good_reference, good_record}
use Rattle.rules.specs.Der.{run}
use Rattle.rules.specs.Writing.{field, record_for, fields_hold, good_to_write}
use Rattle.rules.proofs.Cases.{by_cases, and_left, and_right, clash}

-- ---- a text in its field

pub field_length : (size : ℕ) (t : List ℕ) → length t ≤ size → length (field size t) ≡ size
unfolding field
field_length size t h = simp (length-append, length-replicate) (omega arith)

field_text : (size : ℕ) (t rest : List ℕ) → take (length t) (field size t ++ rest) ≡ t
unfolding field
field_text size t rest = rw append_assoc (take-append_seam t (replicate (size - length t) 0 ++ rest))

zeros : (n : ℕ) → all (λ b. eqb b 0) (replicate n 0) ≡ true
zeros zero = refl
zeros (suc n) = zeros n

field_filler : (size : ℕ) (t : List ℕ) → drop (length t) (field size t) ≡ replicate (size - length t) 0
unfolding field
field_filler size t = drop-append_seam t (replicate (size - length t) 0)

field_filled : (size : ℕ) (t : List ℕ) → length t ≤ size → filled (field size t) (length t) ≡ true
unfolding filled
field_filled size t h = rw (field_length size t h, le-leb (length t) size h, field_filler size t) (zeros (size - length t))

-- ---- the record

module _ (r : Reference) (h : length r.service ≤ service_size) (k : length r.domain ≤ domain_size) where
  pub record_length : length (record_for r) ≡ record_size
  unfolding record_for
  record_length =
      let e : length (field service_size r.service ++ field domain_size r.domain) ≡ 316 =
      rw (length-append, field_length service_size r.service h, field_length domain_size r.domain k) in
      ap (λ (n : ℕ). suc (suc (suc (suc n)))) e

  service_field : take 63 (drop 4 (record_for r)) ≡ field service_size r.service
  unfolding record_for
  service_field = take_at (field service_size r.service) (field domain_size r.domain) 63 (field_length service_size r.service h)

  past_service : drop 67 (record_for r) ≡ field domain_size r.domain
  unfolding record_for
  past_service = drop_at (field service_size r.service) (field domain_size r.domain) 63 (field_length service_size r.service h)

  domain_field : take 253 (drop 67 (record_for r)) ≡ field domain_size r.domain
  domain_field = rw past_service (take_all 253 (field domain_size r.domain) (omega (arith, field_length domain_size r.domain k)))

  service_is_lem : take (length r.service) (drop 4 (record_for r)) ≡ r.service
  unfolding record_for
  service_is_lem = field_text service_size r.service (field domain_size r.domain)

  domain_is : take (length r.domain) (drop 67 (record_for r)) ≡ r.domain
  domain_is = rw (past_service, ← append-nil (field domain_size r.domain)) (field_text domain_size r.domain [])

  byte0 : get_or (record_for r) 0 0 ≡ r.kind
  unfolding record_for
  byte0 = refl

  byte1 : get_or (record_for r) 1 0 ≡ 0
  unfolding record_for
  byte1 = refl

  byte2 : get_or (record_for r) 2 0 ≡ length r.service
  unfolding record_for
  byte2 = refl

  byte3 : get_or (record_for r) 3 0 ≡ length r.domain
  unfolding record_for
  byte3 = refl

  -- what the record says is what was asked for
  pub says_it : reference_of (record_for r) ≡ r
  unfolding reference_of part
  says_it =
      let s : take (get_or (record_for r) 2 0) (drop 4 (record_for r)) ≡ r.service = rw byte2 service_is_lem in
      let d : take (get_or (record_for r) 3 0) (drop 67 (record_for r)) ≡ r.domain = rw byte3 domain_is in
      λ i. record { kind = byte0 i; service = s i; domain = d i }

  pub judged_alike : good_record (record_for r) ≡ good_reference r
  unfolding good_record part
  judged_alike =
      rw (byte1, byte2, byte3, service_field, domain_field, field_filled service_size r.service h, field_filled domain_size r.domain k, says_it)

-- ---- the texts of a good reference fit their fields

ldh_short : (max : ℕ) (s : List ℕ) → ldh max s ≡ true → length s ≤ max
unfolding ldh
ldh_short max s e =
    leb-true (length s) max (and_right (some? s) (leb (length s) max) (and_left _ _ (and_left _ _ (and_left _ _ e))))

scheme_short : (s : List ℕ) → scheme s ≡ true → length s ≤ 63
unfolding scheme
scheme_short s e = leb-true (length s) 63 (and_left (leb (length s) 63) _ (and_left _ _ e))

domain_short : (s : List ℕ) → domain s ≡ true → length s ≤ domain_size
unfolding domain
domain_short s e = leb-true (length s) 253 (and_left (leb (length s) 253) _ (and_left _ _ e))

service_short : (kind : ℕ) (s : List ℕ) → good_service kind s ≡ true → length s ≤ service_size
unfolding good_service service
service_short kind s e =
    by_cases (eqb kind dns_kind || eqb kind cn_kind) (λ f. omega (arith, eqb-true (length s) 0 (rw f at e)))
    (λ f. by_cases (eqb kind srv_kind) (λ g. omega (arith, ldh_short 62 s (rw (f, g) at e)))
    (λ g. by_cases (eqb kind uri_kind) (λ k. scheme_short s (rw (f, g, k) at e)) (λ k. clash (rw (f, g, k) at e) refl)))

pub record Fit (r : Reference) : Type 0 where
  pub service : length r.service ≤ service_size
  pub domain : length r.domain ≤ domain_size

pub texts_fit : (r : Reference) → good_reference r ≡ true → Fit r
unfolding good_reference
texts_fit r e =
    let p = and_left (good_service r.kind r.service && domain r.domain) _ e in
    record {
      service = service_short r.kind r.service (and_left (good_service r.kind r.service) _ p);
      domain = domain_short r.domain (and_right (good_service r.kind r.service) _ p);
    }

-- so a reference can be written exactly where it is good
pub good_to_write_lem : (r : Reference) → good_to_write r ≡ good_reference r
unfolding good_to_write fields_hold
good_to_write_lem r =
    by_cases (good_reference r) (λ e. let f = texts_fit r e in
    rw (le-leb (length r.service) service_size f.service, le-leb (length r.domain) domain_size f.domain) (judged_alike r f.service f.domain))
    (λ e. by_cases (leb (length r.service) service_size && leb (length r.domain) domain_size)
    (λ g.
    let s = leb-true _ _ (and_left (leb (length r.service) service_size) _ g) in
    let d = leb-true _ _ (and_right (leb (length r.service) service_size) _ g) in
    rw g (judged_alike r s d))
    (λ g. rw (g, e)))

-- ---- records end to end

module _ (r : Reference) (g : good_to_write r ≡ true) where
  pub is_good : good_reference r ≡ true
  is_good = sym (good_to_write_lem r) ∙ g

  pub long_320 : length (record_for r) ≡ record_size
  long_320 = let f = texts_fit r is_good in record_length r f.service f.domain

pub run_length : (l : List Reference) → all good_to_write l ≡ true → length (run record_for l) ≡ length l * record_size
unfolding run
run_length [] h = refl
run_length (r ∷ l) h =
    rw (length-append, long_320 r (and_left (good_to_write r) _ h), run_length l (and_right (good_to_write r) _ h)) (omega arith)
