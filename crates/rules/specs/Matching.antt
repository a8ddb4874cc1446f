-- Which presented identifiers a reference is held against, the first pair that matches, and the first breach of the constraints.
-- Everything here is a function of lists of names.
use Rattle.std.specs.Prelude.{ℕ, suc, Bool, false, cond, not, ◌&&◌, ◌||◌, List, [], ◌∷◌, eqb}
use Rattle.std.proofs.Math.Option.{Option, none, some}
use Rattle.rules.specs.Bytes.{some?, any, count, find, same}
use Rattle.rules.specs.Numbers.{dns_kind, srv_kind, uri_kind, cn_kind}
use Rattle.rules.specs.Names.{dns_matches, dns_id, dns_within, dns_reaches, srv_id, srv_matches, uri_matches, in_subtree}
use Rattle.rules.specs.Records.{Reference}
use Rattle.rules.specs.Der.{Member}
use Rattle.rules.specs.San.{GeneralName, plain, other, srv_oid, san_grammar}
use Rattle.rules.specs.Subject.{Attribute, is_cn, cn_tag, subject_grammar}
use Rattle.rules.specs.Constraints.{permitted, excluded}
use Rattle.rules.specs.declared.Row.{Row}
use Rattle.rules.specs.declared.Breach.{Breach}

-- ---- the texts of names

-- the content of an entry of one tag
unfoldable pub tagged_text : ℕ → GeneralName → Option (List ℕ)
tagged_text tag (plain t c) = cond (eqb t tag) (some c) none
tagged_text tag (other o t c) = none

-- the IA5String of an SRVName
unfoldable pub srv_text : GeneralName → Option (List ℕ)
srv_text (plain t c) = none
srv_text (other o t c) = cond (same o srv_oid) (some c) none

-- the text that an entry presents to references of a kind. "A reference matches only its own kind."
unfoldable pub entry_text : ℕ → GeneralName → Option (List ℕ)
entry_text kind n =
    cond (eqb kind dns_kind) (tagged_text 0x82 n)
    (cond (eqb kind srv_kind) (srv_text n) (cond (eqb kind uri_kind) (tagged_text 0x86 n) none))

-- "in a set that has exactly one CN attribute, whatever the tags"
unfoldable pub sole_cn : List (Member Attribute) → ℕ → Bool
sole_cn subject set = eqb (count (λ m. eqb m.group set && is_cn m.value) subject) 1

-- "CN-ID: .. the value of an attribute of type CN, tag 0C, 13 or 16, in a set that has exactly one CN attribute"
unfoldable pub cn_text : List (Member Attribute) → Member Attribute → Option (List ℕ)
cn_text subject m =
    cond (is_cn m.value && cn_tag m.value.tag && sole_cn subject m.group) (some m.value.content) none

-- "CN references count only if the SAN has no entry tagged 82 or 86 and no SRVName, readable as a name or not." 1/13: "A dNSName
-- that is no longer a DNS-ID still blocks the CN."
unfoldable pub blocks_cn : GeneralName → Bool
blocks_cn (plain t c) = eqb t 0x82 || eqb t 0x86
blocks_cn (other o t c) = same o srv_oid

-- ---- presented identifiers

-- a name of the certificate as a reference meets it: its row in the listing, and its text if it presents one.
-- "A presented index counts all SAN entries from 0, or the RDNs of the subject for a CN": the row's group.
-- "Start and length cover a whole DER element": the row's.
pub record Presented : Type 0 where
  pub row : Row
  pub text : Option (List ℕ)

-- names and their rows, side by side
unfoldable pub presented_in : {A : Type 0} → (A → Option (List ℕ)) → List Row → List A → List Presented
presented_in text [] names = []
presented_in text (r ∷ rows) [] = []
presented_in text (r ∷ rows) (n ∷ names) = record { row = r; text = text n } ∷ presented_in text rows names

-- all that a reference of a kind is held against
unfoldable pub presented_to : ℕ → List GeneralName → List (Member Attribute) → List Presented
presented_to kind san subject =
    cond (eqb kind cn_kind)
    (cond (any blocks_cn san) [] (presented_in (cn_text subject) (subject_grammar.rows subject) subject))
    (presented_in (entry_text kind) (san_grammar.rows san) san)

-- ---- the first pair

unfoldable pub text_matches : Reference → List ℕ → Bool
text_matches r text =
    cond (eqb r.kind dns_kind || eqb r.kind cn_kind) (dns_matches r.domain text)
    (cond (eqb r.kind srv_kind) (srv_matches r.service r.domain text)
    (cond (eqb r.kind uri_kind) (uri_matches r.service r.domain text) false))

abbrev pub if_some : {A : Type 0} → Option A → (A → Bool) → Bool
if_some none p = false
if_some (some a) p = p a

-- "A text that is no name of its kind matches nothing and isn't a refusal"
unfoldable pub matches : Reference → Presented → Bool
matches r p = if_some p.text (text_matches r)

-- a reference, with its index, and a presented identifier that it matches
pub record Pair : Type 0 where
  pub index : ℕ
  pub reference : Reference
  pub presented : Presented

abbrev pub pair_or : ℕ → Reference → Option Presented → Option Pair → Option Pair
pair_or i r none next = next
pair_or i r (some p) next = some (record { index = i; reference = r; presented = p })

-- "the pair reported is the first (lowest reference, then lowest name)": the references count from i
unfoldable pub first_pair : ℕ → List Reference → List GeneralName → List (Member Attribute) → Option Pair
first_pair i [] san subject = none
first_pair i (r ∷ rs) san subject =
    pair_or i r (find (matches r) (presented_to r.kind san subject)) (first_pair (suc i) rs san subject)

-- ---- constraints

abbrev pub with_some : {A : Type 0} → Option A → List A → List A
with_some none l = l
with_some (some a) l = a ∷ l

-- a form of names: the text of a name of this form, which texts are its identifiers, when an identifier lies in a subtree, and when it
-- breaks an excluded one
pub record Form : Type 0 where
  pub text : GeneralName → Option (List ℕ)
  pub id : List ℕ → Bool
  pub inside : List ℕ → List ℕ → Bool
  pub reaches : List ℕ → List ℕ → Bool

abbrev pub srv_form : Form
srv_form = record { text = srv_text; id = srv_id; inside = in_subtree; reaches = in_subtree }

-- 6/13: "Add dNSName subtrees .., permitted and excluded as for SRVNames"
abbrev pub dns_form : Form
dns_form = record { text = tagged_text 0x82; id = dns_id; inside = dns_within; reaches = dns_reaches }

-- the texts of the subtrees of a form on a side. "Other forms in the constraints are read and passed over."
unfoldable pub subtrees_of : Form → ℕ → List (Member GeneralName) → List (List ℕ)
subtrees_of form side [] = []
subtrees_of form side (m ∷ l) = with_some (cond (eqb m.group side) (form.text m.value) none) (subtrees_of form side l)

-- "if the constraints hold any SRVName subtree, each presented SRVName must be an SRV-ID, lie in no excluded SRVName
-- subtree, and, if any permitted SRVName subtree exists, lie in one". 2/13: "no SRV-ID, so 2 where SRVName subtrees exist". 6/13, the
-- same of dNSNames: "With any dNSName subtree in a string, a dNSName that is no DNS-ID breaks it."
unfoldable pub allowed : Form → List (Member GeneralName) → List ℕ → Bool
allowed form constraints text =
    let inside = subtrees_of form permitted constraints in
    let outside = subtrees_of form excluded constraints in
    (not (some? inside) && not (some? outside))
    || (form.id text && not (any (λ s. form.reaches s text) outside)
    && (not (some? inside) || any (λ s. form.inside s text) inside))

-- a name of this form that a string does not allow
unfoldable pub breaks_as : Form → List (Member GeneralName) → GeneralName → Bool
breaks_as form constraints n = if_some (form.text n) (λ text. not (allowed form constraints text))

unfoldable pub breaks : List (Member GeneralName) → GeneralName → Bool
breaks constraints n = breaks_as srv_form constraints n || breaks_as dns_form constraints n

-- the index of the first entry that breaks a string; the entries count from i
unfoldable pub first_broken : ℕ → List (Member GeneralName) → List GeneralName → Option ℕ
first_broken i constraints [] = none
first_broken i constraints (n ∷ l) = cond (breaks constraints n) (some i) (first_broken (suc i) constraints l)

abbrev pub breach_or : ℕ → Option ℕ → Option Breach → Option Breach
breach_or i none next = next
breach_or i (some j) next = some (record { issuer = i; presented = j })

-- 6/13: "All of them must hold." "lowest issuer first, then lowest name": the issuers count from i
unfoldable pub first_breach : ℕ → List (List (Member GeneralName)) → List GeneralName → Option Breach
first_breach i [] san = none
first_breach i (c ∷ cs) san = breach_or i (first_broken 0 c san) (first_breach (suc i) cs san)
