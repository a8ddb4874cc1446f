-- Names: what is a domain, a service, a scheme; DNS-ID, SRV-ID and URI-ID, and what each matches; the texts of SRVName
-- restrictions, and lying in a subtree. Document 01, "Names", sentence by sentence, as document 02 changes them.
use Rattle.std.specs.Prelude.{ℕ, ◌+◌, ◌-◌, Bool, true, false, cond, not, ◌&&◌, ◌||◌, List, [], ◌∷◌, length, get_or, drop, leb, eqb}
use Rattle.std.proofs.Math.Option.{Option, none, some}
use Rattle.rules.specs.Bytes.{some?, all, any, same, begins, before, after}

-- ---- bytes

abbrev pub dot : ℕ
dot = 0x2E

abbrev pub hyphen : ℕ
hyphen = 0x2D

abbrev pub star : ℕ
star = 0x2A

abbrev pub underscore : ℕ
underscore = 0x5F

abbrev pub plus : ℕ
plus = 0x2B

abbrev pub colon : ℕ
colon = 0x3A

abbrev pub slash : ℕ
slash = 0x2F

abbrev pub question : ℕ
question = 0x3F

abbrev pub hash : ℕ
hash = 0x23

abbrev pub at_sign : ℕ
at_sign = 0x40

abbrev pub is : ℕ → ℕ → Bool
is b x = eqb x b

unfoldable pub letter : ℕ → Bool
letter b = (leb 0x41 b && leb b 0x5A) || (leb 0x61 b && leb b 0x7A)

unfoldable pub digit : ℕ → Bool
digit b = leb 0x30 b && leb b 0x39

unfoldable pub letter_digit_hyphen : ℕ → Bool
letter_digit_hyphen b = letter b || digit b || eqb b hyphen

-- "Letters compare without case": only A to Z fold
unfoldable pub lower : ℕ → ℕ
lower b = cond (leb 0x41 b && leb b 0x5A) (b + 32) b

unfoldable pub same_text : List ℕ → List ℕ → Bool
same_text [] [] = true
same_text [] (y ∷ t) = false
same_text (x ∷ s) [] = false
same_text (x ∷ s) (y ∷ t) = eqb (lower x) (lower y) && same_text s t

-- ---- domains

-- one to max letters, digits and hyphens, no hyphen at either end
unfoldable pub ldh : ℕ → List ℕ → Bool
ldh max s =
    some? s && leb (length s) max && all letter_digit_hyphen s
    && not (eqb (get_or s 0 0) hyphen) && not (eqb (get_or s (length s - 1) 0) hyphen)

-- "A label has letters, digits and hyphens, no hyphen at either end", "labels of 1 to 63 bytes"
unfoldable pub label : List ℕ → Bool
label = ldh 63

-- what stands between the dots of a text
unfoldable pub longer : ℕ → List (List ℕ) → List (List ℕ)
longer b [] = (b ∷ []) ∷ []
longer b (l ∷ ls) = (b ∷ l) ∷ ls

unfoldable pub labels : List ℕ → List (List ℕ)
labels [] = [] ∷ []
labels (b ∷ s) = cond (eqb b dot) ([] ∷ labels s) (longer b (labels s))

-- the last of them
unfoldable pub last_of : List (List ℕ) → List ℕ
last_of [] = []
last_of (l ∷ []) = l
last_of (l ∷ m ∷ ls) = last_of (m ∷ ls)

-- "Domain: at most 253 bytes, one or more labels of 1 to 63 bytes joined by single dots. .. No trailing dot."
-- 2/13: "the last label of a domain may not be all digits. This holds for presented names": DNS-ID, CN-ID, SRV-ID and URI-ID ask for
-- a domain
unfoldable pub domain : List ℕ → Bool
domain s = leb (length s) 253 && all label (labels s) && not (all digit (last_of (labels s)))

-- 1/13: "at least two labels". No part of a domain: "Restrictions and presented names without a wildcard may keep one label"
unfoldable pub two_labels : List ℕ → Bool
two_labels s = leb 2 (length (labels s))

-- "Letters compare without case, label by label"
unfoldable pub same_labels : List (List ℕ) → List (List ℕ) → Bool
same_labels [] [] = true
same_labels [] (m ∷ ms) = false
same_labels (l ∷ ls) [] = false
same_labels (l ∷ ls) (m ∷ ms) = same_text l m && same_labels ls ms

unfoldable pub same_domain : List ℕ → List ℕ → Bool
same_domain s t = same_labels (labels s) (labels t)

-- "the subtree's labels are the last labels of its domain .. Equal domains count."
unfoldable pub last_labels : List (List ℕ) → List (List ℕ) → Bool
last_labels subtree [] = same_labels subtree []
last_labels subtree (l ∷ ls) = same_labels subtree (l ∷ ls) || last_labels subtree ls

unfoldable pub domain_within : List ℕ → List ℕ → Bool
domain_within subtree name = last_labels (labels subtree) (labels name)

-- ---- DNS-ID

-- "`*.` and a domain (at most 253 bytes in all)". 1/13: "a wildcard needs at least two labels after it, in DNS-ID and CN-ID"
unfoldable pub wildcard : List ℕ → Bool
wildcard s = leb (length s) 253 && begins (star ∷ dot ∷ []) s && domain (drop 2 s) && two_labels (drop 2 s)

-- "DNS-ID: a dNSName that is a domain, or `*.` and a domain"
unfoldable pub dns_id : List ℕ → Bool
dns_id s = domain s || wildcard s

-- "`*` stands for exactly one whole label of the reference"
unfoldable pub leftmost_matches : List ℕ → List ℕ → Bool
leftmost_matches presented reference = same presented (star ∷ []) || same_text presented reference

unfoldable pub labels_match : List (List ℕ) → List (List ℕ) → Bool
labels_match [] rs = false
labels_match (p ∷ ps) [] = false
labels_match (p ∷ ps) (r ∷ rs) = leftmost_matches p r && same_labels ps rs

-- a presented text matches the domain of a DNS reference. "CN-ID: the same rule", on the value of a CN
unfoldable pub dns_matches : List ℕ → List ℕ → Bool
dns_matches reference text = dns_id text && labels_match (labels text) (labels reference)

-- ---- dNSName subtrees

-- 6/13: "an empty text contains every name; any other text must be a domain, else 5"
unfoldable pub dns_restriction : List ℕ → Bool
dns_restriction s = not (some? s) || domain s

-- the labels that a subtree asks for: an empty text asks for none
unfoldable pub subtree_labels : List ℕ → List (List ℕ)
subtree_labels [] = []
subtree_labels (b ∷ s) = labels (b ∷ s)

-- 6/13: "zero or more labels added on the left": the subtree's labels are the name's last labels, "the star taken as an ordinary label"
unfoldable pub dns_within : List ℕ → List ℕ → Bool
dns_within subtree name = last_labels (subtree_labels subtree) (labels name)

-- 6/13: "one label and then the text after `*.`"
unfoldable pub one_label_then : List ℕ → List ℕ → Bool
one_label_then text subtree = same_labels (labels text) (drop 1 (labels subtree))

-- 6/13: "A wildcard name lies in a subtree if .. It also breaks an excluded subtree made of one label and then the text after `*.`"
unfoldable pub dns_reaches : List ℕ → List ℕ → Bool
dns_reaches subtree name = dns_within subtree name || (wildcard name && one_label_then (drop 2 name) subtree)

-- ---- SRV-ID

-- "a service (1 to 62 letters, digits, hyphens, no hyphen at an end)"
unfoldable pub service : List ℕ → Bool
service = ldh 62

-- of a text that begins with "_": what stands after it up to the first dot, and what stands past that dot
unfoldable pub service_of : List ℕ → List ℕ
service_of s = before (is dot) (drop 1 s)

unfoldable pub domain_of : List ℕ → List ℕ
domain_of s = after (is dot) s

-- "SRV-ID: "_", a service, ".", a domain without wildcard". 2/13: "This holds for .. SRVNames (no SRV-ID ..)"
unfoldable pub srv_id : List ℕ → Bool
srv_id s = begins (underscore ∷ []) s && service (service_of s) && domain (domain_of s)

-- "Service or scheme and domain must both match, without case."
unfoldable pub srv_matches : List ℕ → List ℕ → List ℕ → Bool
srv_matches service_name domain_name text =
    srv_id text && same_text (service_of text) service_name && same_domain (domain_of text) domain_name

-- ---- URI-ID

unfoldable pub scheme_byte : ℕ → Bool
scheme_byte b = letter b || digit b || eqb b plus || eqb b hyphen || eqb b dot

-- "a URI scheme (a letter, then letters, digits, "+", "-", "."), 1 to 63 bytes"
unfoldable pub scheme : List ℕ → Bool
scheme s = leb (length s) 63 && letter (get_or s 0 0) && all scheme_byte s

unfoldable pub scheme_of : List ℕ → List ℕ
scheme_of = before (is colon)

unfoldable pub authority_end : ℕ → Bool
authority_end b = eqb b slash || eqb b question || eqb b hash

-- "an authority up to the first "/", "?", "#" or the end"
unfoldable pub authority_of : List ℕ → List ℕ
authority_of s = before authority_end (drop 2 (after (is colon) s))

-- "optionally a text (perhaps empty) without "@" and then "@""
unfoldable pub host_and_port : List ℕ → List ℕ
host_and_port s = cond (any (is at_sign) (authority_of s)) (after (is at_sign) (authority_of s)) (authority_of s)

unfoldable pub host_of : List ℕ → List ℕ
host_of s = before (is colon) (host_and_port s)

unfoldable pub port_of : List ℕ → List ℕ
port_of s = after (is colon) (host_and_port s)

-- "URI-ID: a scheme as in a record, "://", then an authority ..: optionally .., a domain, optionally ":" and digits or nothing"
unfoldable pub uri_id : List ℕ → Bool
uri_id s =
    scheme (scheme_of s) && begins (slash ∷ slash ∷ []) (after (is colon) s) && domain (host_of s) && all digit (port_of s)

unfoldable pub uri_matches : List ℕ → List ℕ → List ℕ → Bool
uri_matches scheme_name domain_name text =
    uri_id text && same_text (scheme_of text) scheme_name && same_domain (host_of text) domain_name

-- ---- SRVName restrictions

-- "An SRVName here has one of three texts: `_service`, `_service.domain`, `domain`." 2/13: "This holds for .. restriction
-- texts (5)"
unfoldable pub restriction : List ℕ → Bool
restriction s = (begins (underscore ∷ []) s && service (drop 1 s)) || srv_id s || domain s

-- the service, and the domain, that a restriction gives
unfoldable pub given_service : List ℕ → Option (List ℕ)
given_service s = cond (begins (underscore ∷ []) s) (some (service_of s)) none

unfoldable pub given_domain : List ℕ → Option (List ℕ)
given_domain s = cond (begins (underscore ∷ []) s) (cond (any (is dot) s) (some (domain_of s)) none) (some s)

abbrev pub where_given : {A : Type 0} → Option A → (A → Bool) → Bool
where_given none p = true
where_given (some a) p = p a

-- "It lies in a subtree if the service is equal, without case, where one is given, and the subtree's labels are the last
-- labels of its domain where a domain is given." The name is an SRV-ID.
unfoldable pub in_subtree : List ℕ → List ℕ → Bool
in_subtree subtree name =
    where_given (given_service subtree) (λ s. same_text s (service_of name))
    && where_given (given_domain subtree) (λ d. domain_within d (domain_of name))
