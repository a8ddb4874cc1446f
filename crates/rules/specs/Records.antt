-- Reference records: which bytes are good, and what they say. Document 01, "Reference records", as document 02 changes it.
use Rattle.std.specs.Prelude.{ℕ, zero, suc, ◌/◌, ◌%◌, Bool, false, cond, ◌&&◌, ◌||◌, List, [], ◌∷◌, map, length, get_or, take, drop, leb, ltb, eqb}
use Rattle.rules.specs.Bytes.{part, some?, all}
use Rattle.rules.specs.Numbers.{dns_kind, srv_kind, uri_kind, cn_kind, record_size, service_length_at, domain_length_at, service_at, service_size, domain_at, domain_size, records_limit, accepted, records_unreadable, input_too_long}
use Rattle.rules.specs.Names.{domain, two_labels, service, scheme}
use Rattle.rules.specs.declared.Shown.{Shown}

-- what a record says; the service of a URI reference is its scheme
pub record Reference : Type 0 where
  pub kind : ℕ
  pub service : List ℕ
  pub domain : List ℕ

abbrev pub reference : ℕ → List ℕ → List ℕ → Reference
reference kind service domain = record { kind = kind; service = service; domain = domain }

-- "Byte 0 kind .. Byte 2 service length, byte 3 domain length. Bytes 4 to 66 service, 67 to 319 domain"
unfoldable pub reference_of : List ℕ → Reference
reference_of b = record {
  kind = get_or b 0 0;
  service = part b service_at (get_or b service_length_at 0);
  domain = part b domain_at (get_or b domain_length_at 0);
}

-- the text fits its field, "filled with zeros"
unfoldable pub filled : List ℕ → ℕ → Bool
filled field n = leb n (length field) && all (λ b. eqb b 0) (drop n field)

-- "Kinds 1 and 4 have service length 0. Kind 2: a service as defined below, 1 to 62 bytes. Kind 3: a URI scheme"
unfoldable pub good_service : ℕ → List ℕ → Bool
good_service kind s =
    cond (eqb kind dns_kind || eqb kind cn_kind) (eqb (length s) 0)
    (cond (eqb kind srv_kind) (service s) (cond (eqb kind uri_kind) (scheme s) false))

-- "The domain is as defined below, without a wildcard." 1/13: "a reference record whose domain has one label is refused with 6".
-- 2/13: "This holds for .. records (6)"
unfoldable pub good_reference : Reference → Bool
good_reference r = good_service r.kind r.service && domain r.domain && two_labels r.domain

-- "Byte 1 zero."
unfoldable pub good_record : List ℕ → Bool
good_record b =
    eqb (get_or b 1 0) 0
    && filled (part b service_at service_size) (get_or b service_length_at 0)
    && filled (part b domain_at domain_size) (get_or b domain_length_at 0)
    && good_reference (reference_of b)

-- n records, end to end
unfoldable pub split : ℕ → List ℕ → List (List ℕ)
split zero b = []
split (suc n) b = take record_size b ∷ split n (drop record_size b)

unfoldable pub records_of : List ℕ → List (List ℕ)
records_of b = split (length b / record_size) b

-- "Anything else, a total of 0 bytes, or one not divisible by 320 is answer 6."
unfoldable pub good_records : List ℕ → Bool
good_records b = some? b && eqb (length b % record_size) 0 && all good_record (records_of b)

unfoldable pub references_of : List ℕ → List Reference
references_of b = map reference_of (records_of b)

-- ---- the record reader

abbrev pub no_record : ℕ → Shown
no_record answer = record { answer = answer; kind = 0; service = 0; domain = 0 }

-- "that record's kind and two lengths, zeros .. past the last"
unfoldable pub shown_at : List (List ℕ) → ℕ → Shown
shown_at [] i = no_record accepted
shown_at (b ∷ bs) zero =
    record { answer = accepted; kind = get_or b 0 0; service = get_or b service_length_at 0; domain = get_or b domain_length_at 0 }
shown_at (b ∷ bs) (suc i) = shown_at bs i

-- "The record reader takes an index too: 7, then 6, else 0; .. zeros on a refusal"
unfoldable pub shown : List ℕ → ℕ → Shown
shown b i =
    cond (ltb records_limit (length b)) (no_record input_too_long)
    (cond (good_records b) (shown_at (records_of b) i) (no_record records_unreadable))
