-- Domains, DNS-IDs, SRV-IDs and restrictions taken apart and put together.
use Prim.Native.Nat.{ℕ, suc, ◌-◌, ◌≤◌}
use mathlib.Core.Path.{◌≡◌, refl, sym, ap, ◌∙◌}
use mathlib.Core.Bool.{true, false, not, ◌&&◌, or-true}
use mathlib.Core.Logic.{◌⊎◌, ◌≢◌, inl, inr}
use mathlib.Core.List.{List, [], ◌∷◌, ◌++◌}
use native.Mathlib.Omega.{arith}
use lib.ListN.{length, get_or, take, drop, length-append}
use lib.Seq.{take-length, take-suc, get_or-append_seam}
use lib.Dec.{T, eqb, leb}
use borrow.Author.Tests.{eqb-true, eq-eqb, ne_eqb, leb-true, le-leb, not-true}
use Rattle.rules.specs.Bytes.{some?, all, any, begins, before, after}
use Rattle.rules.specs.Names.{is, dot, hyphen, underscore, letter, digit, letter_digit_hyphen, ldh, label, longer, labels, last_of, domain, two_labels, wildcard, dns_id, service, service_of, domain_of, srv_id, restriction, scheme_byte, scheme}
use Rattle.rules.proofs.Text.{text}
use Rattle.rules.proofs.Cases.{by_cases, and_left, and_right, clash, is_true, holds}
use Rattle.rules.proofs.Cut
use Rattle.rules.proofs.Free.{label_no_dot, service_no_dot, domain_empty}
use Rattle.rules.proofs.Labels.{labels_some, two_labels_lem, labels_one, labels_seam, domain_short, domain_first, domain_past}
use Rattle.rules.proofs.Joined.{Hyphenated, Scheme, dotted, Domain, Wildcard, SrvId, Restriction}

-- ---- labels, services and schemes

-- the first byte, and the last, by what the text is joined of
first_other : (b : ℕ) (s : List ℕ) → 1 ≤ length s → ((r : List ℕ) → s ≢ b ∷ r) → eqb (get_or s 0 0) b ≡ false
first_other b [] h n = absurd (omega arith)
first_other b (x ∷ s) h n = ne_eqb x b (λ e. n s (ap (λ y. y ∷ s) e))

last_split : (s : List ℕ) → 1 ≤ length s → s ≡ take (length s - 1) s ++ (get_or s (length s - 1) 0 ∷ [])
last_split s h =
    let k : suc (length s - 1) ≡ length s = omega arith in
    sym (take-length s) ∙ ap (λ n. take n s) (sym k) ∙ take-suc s (length s - 1) 0 (omega arith)

last_other : (b : ℕ) (s : List ℕ) → 1 ≤ length s → ((r : List ℕ) → s ≢ r ++ (b ∷ [])) → eqb (get_or s (length s - 1) 0) b ≡ false
last_other b s h n =
    ne_eqb (get_or s (length s - 1) 0) b
    (λ e. n (take (length s - 1) s) (last_split s h ∙ ap (λ y. take (length s - 1) s ++ (y ∷ [])) e))

last_is : (b : ℕ) (r : List ℕ) → get_or (r ++ (b ∷ [])) (length (r ++ (b ∷ [])) - 1) 0 ≡ b
last_is b r =
    let k : length (r ++ (b ∷ [])) - 1 ≡ length r = omega (arith, length-append r (b ∷ [])) in
    ap (λ n. get_or (r ++ (b ∷ [])) n 0) k ∙ get_or-append_seam r b [] 0

pub hyphenated_taken : (max : ℕ) (s : List ℕ) → ldh max s ≡ true → Hyphenated max s
unfolding ldh
hyphenated_taken max [] e = clash e refl
hyphenated_taken max (x ∷ s) e =
    let t : List ℕ = x ∷ s in
    let short : leb (length t) max ≡ true = search (and_left, and_right) in
    let good : all letter_digit_hyphen t ≡ true = search (and_left, and_right) in
    let first : not (eqb (get_or t 0 0) hyphen) ≡ true = search (and_left, and_right) in
    let last : not (eqb (get_or t (length t - 1) 0) hyphen) ≡ true = search (and_left, and_right) in (
      omega arith,
      leb-true (length t) max short,
      holds (all letter_digit_hyphen t) good,
      λ r f. clash (ap (λ l. eqb (get_or l 0 0) hyphen) f) (not-true (eqb (get_or t 0 0) hyphen) first),
      λ r f.
          clash (ap (λ l. eqb (get_or l (length l - 1) 0) hyphen) f ∙ eq-eqb (get_or (r ++ text "-") (length (r ++ text "-") - 1) 0) hyphen (last_is hyphen r))
          (not-true (eqb (get_or t (length t - 1) 0) hyphen) last),
    )

pub hyphenated_put : (max : ℕ) (s : List ℕ) → Hyphenated max s → ldh max s ≡ true
unfolding ldh
hyphenated_put max [] h = absurd (omega (arith, h.0))
hyphenated_put max (x ∷ s) h =
    let t : List ℕ = x ∷ s in
    let first : eqb (get_or t 0 0) hyphen ≡ false = first_other hyphen t h.0 h.3 in
    let last : eqb (get_or t (length t - 1) 0) hyphen ≡ false = last_other hyphen t h.0 h.4 in
    let good : all letter_digit_hyphen t ≡ true = is_true (all letter_digit_hyphen t) h.2 in
    simp (le-leb (length t) max h.1, good, first, last)

pub scheme_taken : (s : List ℕ) → scheme s ≡ true → Scheme s
unfolding scheme letter
scheme_taken [] e = clash e refl
scheme_taken (b ∷ r) e =
    let short : leb (length (b ∷ r)) 63 ≡ true = search (and_left, and_right) in
    let first : letter b ≡ true = search (and_left, and_right) in
    let good : all scheme_byte r ≡ true = search (and_left, and_right) in
    (b, r, holds (letter b) first, holds (all scheme_byte r) good, leb-true (length (b ∷ r)) 63 short, refl)

pub scheme_put : (s : List ℕ) → Scheme s → scheme s ≡ true
unfolding scheme scheme_byte
scheme_put s (b, r, first, good, short, whole) =
    let first' : letter b ≡ true = is_true (letter b) first in
    simp (le-leb (length s) 63 short, ap (λ l. letter (get_or l 0 0)) whole, ap (all scheme_byte) whole, first', is_true (all scheme_byte r) good)

-- ---- domains

-- a dot more in front, a byte more in front
dotted_dot : (ls : List (List ℕ)) → T (some? ls) → dotted ([] ∷ ls) ≡ dot ∷ dotted ls
dotted_dot [] h = absurd h
dotted_dot (l ∷ ls) h = refl

dotted_longer : (b : ℕ) (ls : List (List ℕ)) → dotted (longer b ls) ≡ b ∷ dotted ls
unfolding longer
dotted_longer b [] = refl
dotted_longer b (l ∷ []) = refl
dotted_longer b (l ∷ m ∷ ls) = refl

-- a text is its labels joined by dots
dotted_labels : (t : List ℕ) → dotted (labels t) ≡ t
unfolding labels
dotted_labels [] = refl
dotted_labels (b ∷ s) =
    by_cases (eqb b dot)
    (λ e. rw e (dotted_dot (labels s) (labels_some s) ∙ rw (dotted_labels s, eqb-true b dot e)))
    (λ e. rw e (dotted_longer b (labels s) ∙ ap (λ l. b ∷ l) (dotted_labels s)))

-- a text with a dot is cut at its first
cut_at_dot : (t : List ℕ) → any (is dot) t ≡ true → t ≡ before (is dot) t ++ (text "." ++ after (is dot) t)
cut_at_dot t h =
    let c = Cut.cut_there (is dot) t h in
    c.2 ∙ ap (λ x. before (is dot) t ++ x ∷ after (is dot) t) (eqb-true c.0 dot c.1)

-- good labels joined by dots are the labels of the text
labels_dotted : (ls : List (List ℕ)) → T (some? ls) → all label ls ≡ true → labels (dotted ls) ≡ ls
labels_dotted [] h e = absurd h
labels_dotted (l ∷ []) h e = labels_one l (label_no_dot l (and_left (label l) true e))
labels_dotted (l ∷ m ∷ ls) h e =
    labels_seam (dotted (m ∷ ls)) l (label_no_dot l (and_left (label l) (all label (m ∷ ls)) e))
    ∙ ap (λ r. l ∷ r) (labels_dotted (m ∷ ls) tt (and_right (label l) (all label (m ∷ ls)) e))

-- the last of some labels, and what stands before it
rest_and_last : (ls : List (List ℕ)) → T (some? ls) → (ks : List (List ℕ)) × (ls ≡ ks ++ last_of ls ∷ [])
unfolding last_of
rest_and_last [] h = absurd h
rest_and_last (l ∷ []) h = ([], refl)
rest_and_last (l ∷ m ∷ ls) h =
    let (ks, e) = rest_and_last (m ∷ ls) tt in
    (l ∷ ks, ap (λ r. l ∷ r) e)

last_put : (ls : List (List ℕ)) (l : List ℕ) → last_of (ls ++ l ∷ []) ≡ l
unfolding last_of
last_put [] l = refl
last_put (k ∷ []) l = refl
last_put (k ∷ m ∷ ls) l = last_put (m ∷ ls) l

some_put : (ls : List (List ℕ)) (l : List ℕ) → T (some? (ls ++ l ∷ []))
some_put [] l = tt
some_put (k ∷ ls) l = tt

pub domain_taken : (t : List ℕ) → domain t ≡ true → Domain t
unfolding domain
domain_taken t e =
    let short : leb (length t) 253 ≡ true = search (and_left, and_right) in
    let good : all label (labels t) ≡ true = search (and_left, and_right) in
    let last : not (all digit (last_of (labels t))) ≡ true = search (and_left, and_right) in
    let (ks, whole) = rest_and_last (labels t) (labels_some t) in (
      ks,
      last_of (labels t),
      holds (all label (ks ++ last_of (labels t) ∷ [])) (ap (all label) (sym whole) ∙ good),
      holds (not (all digit (last_of (labels t)))) last,
      leb-true (length t) 253 short,
      sym (dotted_labels t) ∙ ap dotted whole,
    )

pub domain_put : (t : List ℕ) → Domain t → domain t ≡ true
unfolding domain
domain_put t (ks, last, good, other, short, whole) =
    let ls : List (List ℕ) = ks ++ last ∷ [] in
    let e : all label ls ≡ true = is_true (all label ls) good in
    let l : labels t ≡ ls = ap labels whole ∙ labels_dotted ls (some_put ks last) e in
    simp (l, e, last_put ks last, is_true (not (all digit last)) other, le-leb (length t) 253 short)

-- ---- texts that begin with given bytes

pub begins_parts : (p s : List ℕ) → begins p s ≡ true → s ≡ p ++ drop (length p) s
unfolding begins
begins_parts [] s e = refl
begins_parts (x ∷ p) [] e = clash e refl
begins_parts (x ∷ p) (y ∷ s) e =
    let f : x ≡ y = eqb-true x y (and_left (eqb x y) (begins p s) e) in
    rw f (ap (λ l. y ∷ l) (begins_parts p s (and_right (eqb x y) (begins p s) e)))

pub begins_append : (p r : List ℕ) → begins p (p ++ r) ≡ true
unfolding begins
begins_append [] r = refl
begins_append (x ∷ p) r = rw (eq-eqb x x refl) (begins_append p r)

-- ---- DNS-IDs

-- the first of two labels ends at a dot, and past it stands a domain
first_label : (t : List ℕ) → domain t ≡ true → two_labels t ≡ true
    → T (label (before (is dot) t)) × T (domain (after (is dot) t)) × (t ≡ before (is dot) t ++ (text "." ++ after (is dot) t))
first_label t e two =
    let h : any (is dot) t ≡ true = sym (two_labels_lem t) ∙ two in
    let first = domain_first t e in (
      holds (label (before (is dot) t)) first,
      holds (domain (after (is dot) t)) (sym (domain_past t h first (domain_short t e)) ∙ e),
      cut_at_dot t h,
    )

pub wildcard_taken : (t : List ℕ) → wildcard t ≡ true → Wildcard t
unfolding wildcard
wildcard_taken t e =
    let b : begins (text "*.") t ≡ true = search (and_left, and_right) in
    let d : domain (drop 2 t) ≡ true = search (and_left, and_right) in
    let two : two_labels (drop 2 t) ≡ true = search (and_left, and_right) in
    let l : leb (length t) 253 ≡ true = search (and_left, and_right) in
    let (first, rest, whole) = first_label (drop 2 t) d two in (
      before (is dot) (drop 2 t),
      after (is dot) (drop 2 t),
      first,
      rest,
      leb-true (length t) 253 l,
      begins_parts (text "*.") t b ∙ ap (λ r. text "*." ++ r) whole,
    )

pub wildcard_put : (t : List ℕ) → Wildcard t → wildcard t ≡ true
unfolding wildcard
wildcard_put t (l, d, first, rest, short, whole) =
    let r : List ℕ = l ++ dot ∷ d in
    let n : length t ≡ suc (suc (length r)) = ap length whole in
    let none : any (is dot) l ≡ false = label_no_dot l (is_true (label l) first) in
    let some : any (is dot) r ≡ true = Cut.any_seam (is dot) dot d refl l in
    let good : domain r ≡ true =
    domain_past r some (ap label (Cut.before_seam (is dot) dot d refl l none) ∙ is_true (label l) first) (omega arith)
    ∙ ap domain (Cut.after_seam (is dot) dot d refl l none)
    ∙ is_true (domain d) rest in
    simp (
      le-leb (length t) 253 short,
      ap (begins (text "*.")) whole ∙ begins_append (text "*.") r,
      ap (drop 2) whole,
      good,
      two_labels_lem r ∙ some,
    )

pub dns_taken : (t : List ℕ) → dns_id t ≡ true → T (domain t) ⊎ Wildcard t
unfolding dns_id
dns_taken t e =
    by_cases (domain t) (λ h. inl (holds (domain t) h)) (λ h. inr (wildcard_taken t (rw h at e)))

pub dns_put : (t : List ℕ) → T (domain t) ⊎ Wildcard t → dns_id t ≡ true
unfolding dns_id
dns_put t (inl d) = simp (is_true (domain t) d)
dns_put t (inr w) = simp (wildcard_put t w, or-true)

-- ---- SRV-IDs

-- past the underscore: a domain is not empty, so there is a dot
srv_cut : (r : List ℕ) → domain (after (is dot) r) ≡ true → r ≡ before (is dot) r ++ (text "." ++ after (is dot) r)
srv_cut r e =
    by_cases (any (is dot) r) (cut_at_dot r)
    (λ h. clash e (ap domain (Cut.after_none (is dot) r h) ∙ domain_empty))

-- what stands after the first dot of a text that begins with an underscore
past_underscore : (t r : List ℕ) → t ≡ text "_" ++ r → domain_of t ≡ after (is dot) r
unfolding domain_of after
past_underscore t r e = ap (after (is dot)) e

pub srv_taken : (t : List ℕ) → srv_id t ≡ true → SrvId t
unfolding srv_id service_of
srv_taken t e =
    let b : begins (text "_") t ≡ true = search (and_left, and_right) in
    let s : service (before (is dot) (drop 1 t)) ≡ true = search (and_left, and_right) in
    let d : domain (domain_of t) ≡ true = search (and_left, and_right) in
    let whole : t ≡ text "_" ++ drop 1 t = begins_parts (text "_") t b in
    let f : domain (after (is dot) (drop 1 t)) ≡ true = ap domain (sym (past_underscore t (drop 1 t) whole)) ∙ d in (
      before (is dot) (drop 1 t),
      after (is dot) (drop 1 t),
      holds (service (before (is dot) (drop 1 t))) s,
      holds (domain (after (is dot) (drop 1 t))) f,
      whole ∙ ap (λ r. underscore ∷ r) (srv_cut (drop 1 t) f),
    )

pub srv_put : (t : List ℕ) → SrvId t → srv_id t ≡ true
unfolding srv_id service_of
srv_put t (s, d, is_s, is_d, whole) =
    let none : any (is dot) s ≡ false = service_no_dot s (is_true (service s) is_s) in
    let r : List ℕ = s ++ dot ∷ d in
    let first : before (is dot) (drop 1 t) ≡ s = ap (λ l. before (is dot) (drop 1 l)) whole ∙ Cut.before_seam (is dot) dot d refl s none in
    let last : domain_of t ≡ d = past_underscore t r whole ∙ Cut.after_seam (is dot) dot d refl s none in
    simp (ap (begins (text "_")) whole ∙ begins_append (text "_") r, first, last, is_true (service s) is_s, is_true (domain d) is_d)

-- ---- restrictions

pub restriction_taken : (t : List ℕ) → restriction t ≡ true → Restriction t
unfolding restriction
restriction_taken t e =
    by_cases (begins (text "_") t && service (drop 1 t))
    (λ h. inl (
      drop 1 t,
      holds (service (drop 1 t)) (and_right (begins (text "_") t) (service (drop 1 t)) h),
      begins_parts (text "_") t (and_left (begins (text "_") t) (service (drop 1 t)) h),
    ))
    (λ h. by_cases (srv_id t) (λ g. inr (inl (srv_taken t g))) (λ g. inr (inr (holds (domain t) (rw (h, g) at e)))))

pub restriction_put : (t : List ℕ) → Restriction t → restriction t ≡ true
unfolding restriction
restriction_put t (inl (s, is_s, whole)) =
    simp (ap (begins (text "_")) whole ∙ begins_append (text "_") s, ap (drop 1) whole, is_true (service s) is_s)
restriction_put t (inr (inl d)) = simp (srv_put t d, or-true)
restriction_put t (inr (inr d)) = simp (is_true (domain t) d, or-true)
