-- A host and its port, and a host that is compared with a reference's domain.
use Prim.Native.Nat.{ℕ, ◌+◌, ◌<◌, ◌≤◌}
use mathlib.Core.Path.{◌≡◌, sym, ap, ◌∙◌}
use mathlib.Core.Bool.{Bool, true, false, and-true}
use mathlib.Core.List.{List, []}
use native.Mathlib.Omega.{arith}
use lib.ListN.{length, get_or, take, drop}
use lib.Seq.{take_all, length-take-le}
use borrow.Author.Tests.{eq-eqb, eqb-true}
use Rattle.octets.proofs.Cases.{and_left, and_right, fails, clash}
use Rattle.octets.proofs.Compare.{text_length_lem}
use Rattle.octets.proofs.Cut.{before_within, before_whole}
use Rattle.octets.proofs.Place.{part_before, part_after, none_after, passes_at, before_at}
use Rattle.rules.specs.Bytes.{all, before, after}
use Rattle.rules.specs.Names.{is, colon, digit, domain, same_text}
use Rattle.names.proofs.Free.{domain_no_colon}
use Rattle.names.proofs.Folded.{same_domains}
use Rattle.uri.specs.Parts.{hosted, host_matches}

-- ---- judged: the colon is at n

module _ (h : List ℕ) (n : ℕ) (at : n ≡ length (before (is colon) h)) (good : Bool) (is_good : good ≡ domain (take n h)) where
  -- no domain stands before the colon
  pub hosted_no_domain : good ≡ false → false ≡ hosted h
  unfolding hosted
  hosted_no_domain e = rw (← part_before (is colon) h n at, ← is_good, e)

  -- one does, and there is no colon
  pub hosted_no_port : good ≡ true → n ≡ length h → true ≡ hosted h
  unfolding hosted
  hosted_no_port e l =
      rw (← part_before (is colon) h n at, ← is_good, e, none_after (is colon) h n at (omega arith))

  -- one does, and the port decides
  pub hosted_port : (port : List ℕ) (r : Bool) → port ≡ drop (n + 1) h → r ≡ all digit port → good ≡ true → r ≡ hosted h
  unfolding hosted
  hosted_port port r f g e =
      g ∙ rw (f, part_after (is colon) h n at, ← part_before (is colon) h n at, ← is_good, e)

-- ---- compared first

module _ (d h : List ℕ) where
  module _ (e : host_matches d h ≡ true) where
    -- the domains are the same
    host_same : same_text (before (is colon) h) d ≡ true
    unfolding host_matches
    host_same = search (and_left, and_right)

    -- the host is a domain, and so is the reference's
    pub is_domain : domain d ≡ true
    unfolding host_matches hosted
    is_domain =
        let one : domain (before (is colon) h) ≡ true = search (and_left, and_right) in
        sym (same_domains (before (is colon) h) d host_same) ∙ one

    -- it ends where the domain of the reference does
    place : length d ≡ length (before (is colon) h)
    place = sym (text_length_lem _ _ host_same)

    -- and is the part that was compared
    host_part : take (length d) h ≡ before (is colon) h
    host_part = part_before (is colon) h (length d) place

  -- too short
  pub host_short : length h < length d → false ≡ host_matches d h
  host_short k = fails _ (λ e. omega (arith, place e, before_within (is colon) h))

  -- another text
  pub host_other : (r : Bool) → r ≡ same_text (take (length d) h) d → r ≡ false → false ≡ host_matches d h
  host_other r f k = fails _ (λ e. clash (host_same e) (rw (← host_part e) (sym f ∙ k)))

  -- something else than a colon follows
  pub host_no_colon : length d ≤ length h → (length h ≡ length d → ⊥) → (get_or h (length d) 0 ≡ 0x3A → ⊥) → false ≡ host_matches d h
  host_no_colon k l n =
      let m : length d < length h = omega arith in
      fails _ (λ e. n (eqb-true _ _ (passes_at (is colon) h (length d) (place e) m)))

  -- the host was compared with a domain, and is one
  module _ (good : domain d ≡ true) (s : Bool) (is_s : s ≡ same_text (take (length d) h) d) (same : s ≡ true) where
    is_same : same_text (take (length d) h) d ≡ true
    is_same = sym is_s ∙ same

    is_good : domain (take (length d) h) ≡ true
    is_good = same_domains (take (length d) h) d is_same ∙ good

    -- nothing follows: a domain holds no colon
    pub host_alone : length h ≡ length d → true ≡ host_matches d h
    unfolding host_matches hosted
    host_alone k =
        let t : take (length d) h ≡ h = take_all (length d) h (omega arith) in
        let q : domain h ≡ true = rw t at is_good in
        let o : same_text h d ≡ true = rw t at is_same in
        let b : before (is colon) h ≡ h = before_whole (is colon) h (domain_no_colon h q) in
        let a : after (is colon) h ≡ [] = none_after (is colon) h (length h) (sym (ap length b)) (omega arith) in
        sym (rw (b, a, q, o))

    -- a colon follows, and the port decides
    pub host_ported : (port : List ℕ) (p : Bool) → port ≡ drop (length d + 1) h → p ≡ all digit port → length d ≤ length h
        → (length h ≡ length d → ⊥) → get_or h (length d) 0 ≡ 0x3A → p ≡ host_matches d h
    unfolding host_matches hosted
    host_ported port p f g k l c =
        let m : length d < length h = omega arith in
        let b : before (is colon) h ≡ take (length d) h =
        before_at (is colon) h (length d) m (domain_no_colon (take (length d) h) is_good) (eq-eqb _ _ c) in
        let n : length d ≡ length (before (is colon) h) = sym (ap length b ∙ length-take-le (length d) h k) in
        let a : after (is colon) h ≡ port = sym (part_after (is colon) h (length d) n) ∙ sym f in
        g ∙ rw (b, a, is_good, is_same) (simp and-true)
