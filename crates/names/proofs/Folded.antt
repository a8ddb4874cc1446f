-- Folding a text changes nothing of whether it is a domain, a service or a scheme: a text that is the same as one without case is one.
use Prim.Native.Nat.{ℕ, ◌+◌, ◌-◌, ◌<◌}
use mathlib.Core.Path.{◌≡◌, refl, sym, ap, ◌∙◌}
use mathlib.Core.Bool.{Bool, true, false, not, or-true}
use mathlib.Core.List.{List, [], ◌∷◌, map}
use native.Mathlib.Omega.{arith}
use lib.ListN.{length, get_or, length-map, get_or-map}
use lib.Dec.{eqb}
use borrow.Author.Tests.{not-false, ne_eqb, le-leb, lt-leb}
use Rattle.rules.proofs.Cases.{by_cases}
use Rattle.octets.proofs.Classes.{lower_cases}
use Rattle.octets.proofs.Compare.{text_is, same_equal}
use Rattle.rules.specs.Bytes.{some?, all}
use Rattle.rules.specs.Names.{dot, hyphen, letter, digit, letter_digit_hyphen, scheme_byte, lower, same_text, ldh, label, longer, labels, last_of, domain, service, scheme}

-- ---- bytes

-- a byte below the letters is folded from itself alone, and to itself
folded_is : (b x : ℕ) → b < 0x41 → eqb (lower x) b ≡ eqb x b
folded_is b x h =
    lower_cases x (λ k _ e. ne_eqb (lower x) b (λ f. omega (arith, k, e, f)) ∙ sym (ne_eqb x b (λ f. omega (arith, k, f))))
    (λ e. ap (λ y. eqb y b) e)

letter_folded : (x : ℕ) → letter (lower x) ≡ letter x
unfolding letter
letter_folded x =
    lower_cases x
    (λ k l e. rw (e, le-leb 0x61 (x + 32) (omega arith), le-leb (x + 32) 0x7A (omega arith), le-leb 0x41 x k, le-leb x 0x5A l, or-true))
    (λ e. ap letter e)

digit_folded : (x : ℕ) → digit (lower x) ≡ digit x
unfolding digit
digit_folded x =
    lower_cases x
    (λ k _ e. rw (e, le-leb 0x30 (x + 32) (omega arith), le-leb 0x30 x (omega arith), lt-leb (x + 32) 0x39 (omega arith), lt-leb x 0x39 (omega arith)))
    (λ e. ap digit e)

ldh_folded : (x : ℕ) → letter_digit_hyphen (lower x) ≡ letter_digit_hyphen x
unfolding letter_digit_hyphen
ldh_folded x = rw (letter_folded x, digit_folded x, folded_is hyphen x (omega arith))

scheme_byte_folded : (x : ℕ) → scheme_byte (lower x) ≡ scheme_byte x
unfolding scheme_byte
scheme_byte_folded x =
    rw (letter_folded x, digit_folded x, folded_is 0x2B x (omega arith), folded_is 0x2D x (omega arith), folded_is 0x2E x (omega arith))

-- ---- texts

all_folded : (p : ℕ → Bool) → ((x : ℕ) → p (lower x) ≡ p x) → (s : List ℕ) → all p (map lower s) ≡ all p s
all_folded p h [] = refl
all_folded p h (x ∷ s) = rw (h x, all_folded p h s)

some_folded : (s : List ℕ) → some? (map lower s) ≡ some? s
some_folded [] = refl
some_folded (x ∷ s) = refl

at_folded : (s : List ℕ) (i : ℕ) → get_or (map lower s) i 0 ≡ lower (get_or s i 0)
unfolding lower
at_folded s i = get_or-map lower s i 0

text_folded : (max : ℕ) (s : List ℕ) → ldh max (map lower s) ≡ ldh max s
unfolding ldh
text_folded max s =
    rw (some_folded s, all_folded letter_digit_hyphen ldh_folded s, at_folded s 0, at_folded s (length (map lower s) - 1), length-map s lower, folded_is hyphen (get_or s 0 0) (omega arith), folded_is hyphen (get_or s (length s - 1) 0) (omega arith))

longer_folded : (x : ℕ) (ls : List (List ℕ)) → longer (lower x) (map (map lower) ls) ≡ map (map lower) (longer x ls)
unfolding longer
longer_folded x [] = refl
longer_folded x (l ∷ ls) = refl

labels_folded : (s : List ℕ) → labels (map lower s) ≡ map (map lower) (labels s)
unfolding labels
labels_folded [] = refl
labels_folded (x ∷ s) =
    by_cases (eqb x dot) (λ e. rw (folded_is dot x (omega arith), e, labels_folded s))
    (λ e. rw (folded_is dot x (omega arith), e, labels_folded s) (longer_folded x (labels s)))

all_labels_folded : (ls : List (List ℕ)) → all label (map (map lower) ls) ≡ all label ls
unfolding label
all_labels_folded [] = refl
all_labels_folded (l ∷ ls) = rw (text_folded 63 l, all_labels_folded ls)

last_folded : (ls : List (List ℕ)) → last_of (map (map lower) ls) ≡ map lower (last_of ls)
unfolding last_of
last_folded [] = refl
last_folded (l ∷ []) = refl
last_folded (l ∷ m ∷ ls) = last_folded (m ∷ ls)

domain_folded : (s : List ℕ) → domain (map lower s) ≡ domain s
unfolding domain
domain_folded s =
    rw (length-map s lower, labels_folded s, all_labels_folded (labels s), last_folded (labels s), all_folded digit digit_folded (last_of (labels s)))

service_folded : (s : List ℕ) → service (map lower s) ≡ service s
unfolding service
service_folded s = text_folded 62 s

scheme_folded : (s : List ℕ) → scheme (map lower s) ≡ scheme s
unfolding scheme
scheme_folded s =
    rw (length-map s lower, at_folded s 0, letter_folded (get_or s 0 0), all_folded scheme_byte scheme_byte_folded s)

-- ---- the laws

-- what folding keeps is the same of texts that are the same
kept : (p : List ℕ → Bool) → ((s : List ℕ) → p (map lower s) ≡ p s) → (a b : List ℕ) → same_text a b ≡ true → p a ≡ p b
kept p h a b e = sym (h a) ∙ ap p (same_equal (map lower a) (map lower b) (sym (text_is a b) ∙ e)) ∙ h b

pub same_domains : (a b : List ℕ) → same_text a b ≡ true → domain a ≡ domain b
same_domains a b e = kept domain domain_folded a b e

pub same_services : (a b : List ℕ) → same_text a b ≡ true → service a ≡ service b
same_services a b e = kept service service_folded a b e

pub same_schemes : (a b : List ℕ) → same_text a b ≡ true → scheme a ≡ scheme b
same_schemes a b e = kept scheme scheme_folded a b e

-- what a call may ask for, where it was tested before
pub tested : (t r : Bool) → r ≡ t → not r ≡ false → t ≡ true
tested t r e f = sym e ∙ not-false r f
