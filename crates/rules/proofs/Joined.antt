-- Names as documents 01 and 02 write them: parts joined to a text. `specs/Names.antt` takes a text apart; `joined` of JoinedUri.antt proves
-- that both mean the same texts.
use Prim.Native.Nat.{ℕ, ◌≤◌}
use mathlib.Core.Path.{◌≡◌}
use mathlib.Core.Bool.{not}
use mathlib.Core.Logic.{◌↔◌, ◌⊎◌, ◌≢◌}
use mathlib.Core.List.{List, [], ◌∷◌, ◌++◌}
use lib.ListN.{length}
use lib.Dec.{T}
use Rattle.rules.specs.Bytes.{all, any}
use Rattle.rules.specs.Names.{is, at_sign, authority_end, letter, digit, letter_digit_hyphen, label, domain, wildcard, dns_id, service, srv_id, restriction, scheme_byte, scheme, uri_id}
use Rattle.rules.proofs.Text.{text}

-- "A label has letters, digits and hyphens, no hyphen at either end." "labels of 1 to 63 bytes"; a service has the same, 1 to 62
abbrev pub Hyphenated : ℕ → List ℕ → Type 0
Hyphenated max s =
    (1 ≤ length s)
    × (length s ≤ max)
    × T (all letter_digit_hyphen s)
    × ((r : List ℕ) → s ≢ text "-" ++ r)
    × ((r : List ℕ) → s ≢ r ++ text "-")

-- "labels .. joined by single dots"
abbrev pub dotted : List (List ℕ) → List ℕ
dotted [] = []
dotted (l ∷ []) = l
dotted (l ∷ m ∷ ls) = l ++ (text "." ++ dotted (m ∷ ls))

-- "Domain: at most 253 bytes, one or more labels of 1 to 63 bytes joined by single dots."
-- 2/13: "the last label of a domain may not be all digits"
abbrev pub Domain : List ℕ → Type 0
Domain t =
    (ls : List (List ℕ)) × (last : List ℕ) × T (all label (ls ++ last ∷ [])) × T (not (all digit last)) × (length t ≤ 253)
    × (t ≡ dotted (ls ++ last ∷ []))

-- "`*.` and a domain (at most 253 bytes in all)", with "at least two labels": a label, ".", a domain
abbrev pub Wildcard : List ℕ → Type 0
Wildcard t =
    (l : List ℕ) × (d : List ℕ) × T (label l) × T (domain d) × (length t ≤ 253) × (t ≡ text "*." ++ (l ++ (text "." ++ d)))

-- "SRV-ID: "_", a service (1 to 62 letters, digits, hyphens, no hyphen at an end), ".", a domain without wildcard."
abbrev pub SrvId : List ℕ → Type 0
SrvId t = (s : List ℕ) × (d : List ℕ) × T (service s) × T (domain d) × (t ≡ text "_" ++ (s ++ (text "." ++ d)))

-- "An SRVName here has one of three texts: `_service`, `_service.domain`, `domain`."
abbrev pub Restriction : List ℕ → Type 0
Restriction t = ((s : List ℕ) × T (service s) × (t ≡ text "_" ++ s)) ⊎ SrvId t ⊎ T (domain t)

-- "a URI scheme (a letter, then letters, digits, "+", "-", "."), 1 to 63 bytes"
abbrev pub Scheme : List ℕ → Type 0
Scheme s = (b : ℕ) × (r : List ℕ) × T (letter b) × T (all scheme_byte r) × (length s ≤ 63) × (s ≡ b ∷ r)

-- "optionally a text (perhaps empty) without "@" and then "@"", in "an authority up to the first "/", "?", "#" or the end"
abbrev pub User : List ℕ → Type 0
User u = (u ≡ []) ⊎ ((w : List ℕ) × T (not (any (is at_sign) w)) × T (not (any authority_end w)) × (u ≡ w ++ text "@"))

-- "optionally ":" and digits or nothing"
abbrev pub Port : List ℕ → Type 0
Port p = (p ≡ []) ⊎ ((n : List ℕ) × T (all digit n) × (p ≡ text ":" ++ n))

-- what follows the authority: nothing, or a text from "/", "?" or "#" on
abbrev pub Rest : List ℕ → Type 0
Rest r = (r ≡ []) ⊎ ((b : ℕ) × (q : List ℕ) × T (authority_end b) × (r ≡ b ∷ q))

-- "URI-ID: a scheme as in a record, "://", then an authority ..: optionally .., a domain, optionally .."
pub record UriId (t : List ℕ) : Type 0 where
  pub scheme_part : List ℕ
  pub user : List ℕ
  pub host : List ℕ
  pub port : List ℕ
  pub rest : List ℕ
  pub good_scheme : T (scheme scheme_part)
  pub good_user : User user
  pub good_host : T (domain host)
  pub good_port : Port port
  pub good_rest : Rest rest
  pub text_is : t ≡ scheme_part ++ (text "://" ++ (user ++ (host ++ (port ++ rest))))

-- each test of a name is passed by the joined texts and by no others
pub record Joined : Type 0 where
  pub label_is : (t : List ℕ) → T (label t) ↔ Hyphenated 63 t
  pub service_is_lem : (t : List ℕ) → T (service t) ↔ Hyphenated 62 t
  pub domain_is : (t : List ℕ) → T (domain t) ↔ Domain t
  pub wildcard_is : (t : List ℕ) → T (wildcard t) ↔ Wildcard t
  -- "DNS-ID: a dNSName that is a domain, or .."
  pub dns_is : (t : List ℕ) → T (dns_id t) ↔ T (domain t) ⊎ Wildcard t
  pub srv_is : (t : List ℕ) → T (srv_id t) ↔ SrvId t
  pub restriction_is : (t : List ℕ) → T (restriction t) ↔ Restriction t
  pub scheme_is : (t : List ℕ) → T (scheme t) ↔ Scheme t
  pub uri_is : (t : List ℕ) → T (uri_id t) ↔ UriId t
