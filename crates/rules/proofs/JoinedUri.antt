-- URI-IDs taken apart and put together; and all joined forms.
use Prim.Native.Nat.{ℕ}
use mathlib.Core.Path.{◌≡◌, refl, sym, ap, ◌∙◌}
use mathlib.Core.Bool.{Bool, true, false, cond, not}
use mathlib.Core.Logic.{◌↔◌, inl, inr}
use mathlib.Core.List.{List, [], ◌∷◌, ◌++◌, append-nil, append_assoc}
use lib.ListN.{drop}
use lib.Dec.{T, eqb}
use borrow.Author.Tests.{eqb-true, eq-eqb, not-true}
use Rattle.rules.specs.Bytes.{all, any, begins, before, after}
use Rattle.rules.specs.Names.{is, dot, colon, slash, question, hash, at_sign, letter, digit, letter_digit_hyphen, authority_end, domain, scheme, scheme_of, authority_of, host_and_port, host_of, port_of, uri_id, label, service, wildcard, dns_id, srv_id, restriction}
use Rattle.rules.proofs.Text.{text}
use Rattle.rules.proofs.Cases.{by_cases, and_left, and_right, clash, is_true, holds}
use Rattle.rules.proofs.Cut
use Rattle.rules.proofs.Free.{free_of, domain_free, domain_no_colon, scheme_no_colon}
use Rattle.rules.proofs.Joined
use Rattle.rules.proofs.JoinedNames

-- an authority past its user part
abbrev past_user : List ℕ → List ℕ
past_user a = cond (any (is at_sign) a) (after (is at_sign) a) a

-- ---- taken apart

-- a text and what stands from the first "/", "?" or "#" on
rest_taken : (r : List ℕ) → (q : List ℕ) × Joined.Rest q × (r ≡ before authority_end r ++ q)
rest_taken r =
    by_cases (any authority_end r)
    (λ h.
    let c = Cut.cut_there authority_end r h in
    (c.0 ∷ after authority_end r, inr (c.0, after authority_end r, holds (authority_end c.0) c.1, refl), c.2))
    (λ h. ([], inl refl, sym (append-nil (before authority_end r) ∙ Cut.before_whole authority_end r h)))

-- an authority: its user part, and what follows
user_taken : (a : List ℕ) → any authority_end a ≡ false → (u : List ℕ) × Joined.User u × (a ≡ u ++ past_user a)
user_taken a free =
    by_cases (any (is at_sign) a)
    (λ h.
    let w = before (is at_sign) a in
    let c = Cut.cut_there (is at_sign) a h in
    let none : any (is at_sign) w ≡ false = Cut.any_before (is at_sign) (is at_sign) (λ x e. e) a in
    let whole : a ≡ w ++ at_sign ∷ after (is at_sign) a =
    c.2 ∙ ap (λ x. w ++ x ∷ after (is at_sign) a) (eqb-true c.0 at_sign c.1) in
    let user : Joined.User (w ++ text "@") =
    inr (w, holds (not (any (is at_sign) w)) (ap not none), holds (not (any authority_end w)) (ap not (Cut.any_kept (is at_sign) authority_end a free)), refl) in
    (w ++ text "@", user, whole ∙ sym (append_assoc w (text "@") (after (is at_sign) a)) ∙ rw h))
    (λ h. ([], inl refl, rw h))

-- a host and its port
port_taken : (h : List ℕ) → all digit (after (is colon) h) ≡ true → (p : List ℕ) × Joined.Port p × (h ≡ before (is colon) h ++ p)
port_taken h e =
    by_cases (any (is colon) h)
    (λ g.
    let c = Cut.cut_there (is colon) h g in (
      colon ∷ after (is colon) h,
      inr (after (is colon) h, holds (all digit (after (is colon) h)) e, refl),
      c.2 ∙ ap (λ x. before (is colon) h ++ x ∷ after (is colon) h) (eqb-true c.0 colon c.1),
    ))
    (λ g. ([], inl refl, sym (append-nil (before (is colon) h) ∙ Cut.before_whole (is colon) h g)))

-- the parts side by side
side_by_side : (u d p q : List ℕ) → (u ++ (d ++ p)) ++ q ≡ u ++ (d ++ (p ++ q))
side_by_side u d p q = append_assoc u (d ++ p) q ∙ ap (λ l. u ++ l) (append_assoc d p q)

-- "://" follows the scheme: the colon is there, as something follows it
scheme_taken : (t : List ℕ) → begins (text "//") (after (is colon) t) ≡ true
    → t ≡ before (is colon) t ++ (text "://" ++ drop 2 (after (is colon) t))
unfolding begins
scheme_taken t e =
    by_cases (any (is colon) t)
    (λ h.
    let c = Cut.cut_there (is colon) t h in
    c.2
    ∙ ap (λ x. before (is colon) t ++ x ∷ after (is colon) t) (eqb-true c.0 colon c.1)
    ∙ ap (λ l. before (is colon) t ++ colon ∷ l) (JoinedNames.begins_parts (text "//") (after (is colon) t) e))
    (λ h. clash e (ap (begins (text "//")) (Cut.after_none (is colon) t h)))

uri_taken : (t : List ℕ) → uri_id t ≡ true → Joined.UriId t
unfolding uri_id scheme_of authority_of host_and_port host_of port_of
uri_taken t e =
    let slashes : begins (text "//") (after (is colon) t) ≡ true = search (and_left, and_right) in
    let is_scheme : scheme (before (is colon) t) ≡ true = search (and_left, and_right) in
    let is_host : domain (host_of t) ≡ true = search (and_left, and_right) in
    let is_port : all digit (port_of t) ≡ true = search (and_left, and_right) in
    let a = authority_of t in
    let r = rest_taken (drop 2 (after (is colon) t)) in
    let u = user_taken a (Cut.any_before authority_end authority_end (λ x h. h) (drop 2 (after (is colon) t))) in
    let p = port_taken (host_and_port t) is_port in
    record {
      scheme_part = before (is colon) t;
      user = u.0;
      host = host_of t;
      port = p.0;
      rest = r.0;
      good_scheme = holds (scheme (before (is colon) t)) is_scheme;
      good_user = u.1;
      good_host = holds (domain (host_of t)) is_host;
      good_port = p.1;
      good_rest = r.1;
      text_is =
          scheme_taken t slashes
          ∙ ap (λ l. before (is colon) t ++ (text "://" ++ l))
          (r.2 ∙ ap (λ l. l ++ r.0) (u.2 ∙ ap (λ l. u.0 ++ l) p.2) ∙ side_by_side u.0 (host_of t) p.0 r.0);
    }

-- ---- put together

-- none of the three ends
no_end : (s : List ℕ) → any (is slash) s ≡ false → any (is question) s ≡ false → any (is hash) s ≡ false → any authority_end s ≡ false
unfolding authority_end
no_end [] e f g = refl
no_end (x ∷ s) e f g =
    by_cases (eqb x slash) (λ h. clash (rw h) e)
    (λ h. by_cases (eqb x question) (λ i. clash (rw i) f)
    (λ i. by_cases (eqb x hash) (λ j. clash (rw j) g)
    (λ j. rw (h, i, j) (no_end s (rw h at e) (rw i at f) (rw j at g)))))

rest_put : (x q : List ℕ) → any authority_end x ≡ false → Joined.Rest q → before authority_end (x ++ q) ≡ x
rest_put x q e (inl h) = ap (λ l. before authority_end (x ++ l)) h ∙ ap (before authority_end) (append-nil x) ∙ Cut.before_whole authority_end x e
rest_put x q e (inr (b, r, is_b, h)) =
    ap (λ l. before authority_end (x ++ l)) h ∙ Cut.before_seam authority_end b r (is_true (authority_end b) is_b) x e

-- a test that fails, as a type
fails : (t : Bool) → T (not t) → t ≡ false
fails t h = not-true t (is_true (not t) h)

user_put : (u h : List ℕ) → Joined.User u → any (is at_sign) h ≡ false → past_user (u ++ h) ≡ h
user_put u h (inl e) none = rw e (rw none)
user_put u h (inr (w, no_at, free, e)) none =
    let whole : u ++ h ≡ w ++ at_sign ∷ h = ap (λ l. l ++ h) e ∙ append_assoc w (text "@") h in
    rw (whole, Cut.any_seam (is at_sign) at_sign h refl w) (Cut.after_seam (is at_sign) at_sign h refl w (fails _ no_at))

user_free : (u : List ℕ) → Joined.User u → any authority_end u ≡ false
unfolding authority_end
user_free u (inl e) = rw e
user_free u (inr (w, no_at, free, e)) = rw e (Cut.any_append authority_end w (text "@") (fails (any authority_end w) free) refl)

-- a byte that is neither a digit nor the colon stands in no port
port_free : (b : ℕ) → digit b ≡ false → eqb colon b ≡ false → (p : List ℕ) → Joined.Port p → any (is b) p ≡ false
port_free b no_digit no_colon p (inl e) = rw e
port_free b no_digit no_colon p (inr (n, is_n, e)) = rw (e, no_colon) (free_of digit b no_digit n (is_true (all digit n) is_n))

-- a domain holds no such byte either
host_free : (b : ℕ) → letter_digit_hyphen b ≡ false → eqb dot b ≡ false → digit b ≡ false → eqb colon b ≡ false → (d p : List ℕ) → T (domain d)
    → Joined.Port p → any (is b) (d ++ p) ≡ false
host_free b no_ldh no_dot no_digit no_colon d p is_d is_p =
    Cut.any_append (is b) d p (domain_free b no_ldh (λ e. clash (eq-eqb dot b e) no_dot) d (is_true (domain d) is_d))
    (port_free b no_digit no_colon p is_p)

module _ (d p : List ℕ) (is_d : T (domain d)) (is_p : Joined.Port p) where
  host_ends : any authority_end (d ++ p) ≡ false
  unfolding letter_digit_hyphen letter digit
  host_ends =
      no_end (d ++ p) (host_free slash refl refl refl refl d p is_d is_p) (host_free question refl refl refl refl d p is_d is_p)
      (host_free hash refl refl refl refl d p is_d is_p)

  host_no_at : any (is at_sign) (d ++ p) ≡ false
  unfolding letter_digit_hyphen letter digit
  host_no_at = host_free at_sign refl refl refl refl d p is_d is_p

  -- the domain ends before the colon, and digits follow that
  host_put : (before (is colon) (d ++ p) ≡ d) × (all digit (after (is colon) (d ++ p)) ≡ true)
  host_put = go is_p
    where
      none : any (is colon) d ≡ false
      none = domain_no_colon d (is_true (domain d) is_d)

      go : Joined.Port p → (before (is colon) (d ++ p) ≡ d) × (all digit (after (is colon) (d ++ p)) ≡ true)
      go (inl e) =
          let whole : d ++ p ≡ d = ap (λ l. d ++ l) e ∙ append-nil d in
          (ap (before (is colon)) whole ∙ Cut.before_whole (is colon) d none, rw (whole, Cut.after_none (is colon) d none))
      go (inr (n, is_n, e)) =
          let whole : d ++ p ≡ d ++ colon ∷ n = ap (λ l. d ++ l) e in (
            ap (before (is colon)) whole ∙ Cut.before_seam (is colon) colon n refl d none,
            rw (whole, Cut.after_seam (is colon) colon n refl d none) (is_true (all digit n) is_n),
          )

uri_put : (t : List ℕ) → Joined.UriId t → uri_id t ≡ true
unfolding uri_id scheme_of authority_of host_and_port host_of port_of
uri_put t i =
    let d = i.host in
    let p = i.port in
    let r : List ℕ = i.user ++ (d ++ (p ++ i.rest)) in
    let none : any (is colon) i.scheme_part ≡ false = scheme_no_colon i.scheme_part (is_true (scheme i.scheme_part) i.good_scheme) in
    let first : before (is colon) t ≡ i.scheme_part =
    ap (before (is colon)) i.text_is ∙ Cut.before_seam (is colon) colon (text "//" ++ r) refl i.scheme_part none in
    let past : after (is colon) t ≡ text "//" ++ r =
    ap (after (is colon)) i.text_is ∙ Cut.after_seam (is colon) colon (text "//" ++ r) refl i.scheme_part none in
    let free = Cut.any_append authority_end i.user (d ++ p) (user_free i.user i.good_user) (host_ends d p i.good_host i.good_port) in
    let authority : before authority_end r ≡ i.user ++ (d ++ p) =
    ap (before authority_end) (sym (side_by_side i.user d p i.rest)) ∙ rest_put (i.user ++ (d ++ p)) i.rest free i.good_rest in
    let host : host_and_port t ≡ d ++ p =
    ap (λ a. past_user (before authority_end (drop 2 a))) past
    ∙ ap past_user authority ∙ user_put i.user (d ++ p) i.good_user (host_no_at d p i.good_host i.good_port) in
    let h = host_put d p i.good_host i.good_port in
    let good_scheme : scheme (scheme_of t) ≡ true = ap scheme first ∙ is_true (scheme i.scheme_part) i.good_scheme in
    let slashes : begins (text "//") (after (is colon) t) ≡ true = ap (begins (text "//")) past ∙ JoinedNames.begins_append (text "//") r in
    let good_host : domain (host_of t) ≡ true = ap (λ l. domain (before (is colon) l)) host ∙ ap domain h.0 ∙ is_true (domain d) i.good_host in
    let good_port : all digit (port_of t) ≡ true = ap (λ l. all digit (after (is colon) l)) host ∙ h.1 in
    simp (good_scheme, slashes, good_host, good_port)

-- ---- all joined forms

both_ways : {A : Type 0} (t : Bool) → (t ≡ true → A) → (A → t ≡ true) → T t ↔ A
both_ways t f g = (λ h. f (is_true t h), λ a. holds t (g a))

label_is : (t : List ℕ) → T (label t) ↔ Joined.Hyphenated 63 t
unfolding label
label_is t = both_ways (label t) (JoinedNames.hyphenated_taken 63 t) (JoinedNames.hyphenated_put 63 t)

service_is_lem : (t : List ℕ) → T (service t) ↔ Joined.Hyphenated 62 t
unfolding service
service_is_lem t = both_ways (service t) (JoinedNames.hyphenated_taken 62 t) (JoinedNames.hyphenated_put 62 t)

pub joined : Joined.Joined
joined = record {
  label_is = label_is;
  service_is_lem = service_is_lem;
  domain_is = λ t. both_ways (domain t) (JoinedNames.domain_taken t) (JoinedNames.domain_put t);
  wildcard_is = λ t. both_ways (wildcard t) (JoinedNames.wildcard_taken t) (JoinedNames.wildcard_put t);
  dns_is = λ t. both_ways (dns_id t) (JoinedNames.dns_taken t) (JoinedNames.dns_put t);
  srv_is = λ t. both_ways (srv_id t) (JoinedNames.srv_taken t) (JoinedNames.srv_put t);
  restriction_is = λ t. both_ways (restriction t) (JoinedNames.restriction_taken t) (JoinedNames.restriction_put t);
  scheme_is = λ t. both_ways (scheme t) (JoinedNames.scheme_taken t) (JoinedNames.scheme_put t);
  uri_is = λ t. both_ways (uri_id t) (uri_taken t) (uri_put t);
}
