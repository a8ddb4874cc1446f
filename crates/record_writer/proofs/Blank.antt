-- What three stores and two puts make of 320 zeros.
use Prim.Native.Nat.{ℕ, zero, suc, ◌+◌, ◌-◌, ◌≤◌}
use mathlib.Core.Path.{◌≡◌, refl, ap, ◌∙◌}
use mathlib.Core.List.{List, [], ◌∷◌, ◌++◌, append_assoc}
use native.Mathlib.Nat.{sub-zero, zero-sub, suc-sub-suc}
use native.Mathlib.Omega.{arith}
use lib.ListN.{length, drop, set, replicate, replicate-append-replicate, length-append, length-drop}
use lib.Seq.{drop-drop, take_at, drop_at, length-take-le}
use Rattle.rules.specs.Numbers.{service_size, domain_size}
use Rattle.rules.specs.Records.{reference}
use Rattle.rules.specs.Writing.{field, record_for}
use Rattle.reading.specs.Written.{field_length}
use Rattle.output.specs.Output.{pasted, Fits, Put}

drop_replicate : (k n : ℕ) → drop {A = ℕ} k (replicate n 0) ≡ replicate (n - k) 0
drop_replicate zero n = rw sub-zero
drop_replicate (suc k) zero = rw zero-sub
drop_replicate (suc k) (suc n) = rw suc-sub-suc (drop_replicate k n)

-- a text put into zeros past h: its field, and the zeros that are left
put_in_zeros : (h s : List ℕ) (at size more : ℕ) → length h ≡ at → length s ≤ size
    → pasted (h ++ replicate (size + more) 0) at s ≡ h ++ (field size s ++ replicate more 0)
unfolding pasted field
put_in_zeros h s at size more h_is fits =
    let e : size + more - length s ≡ size - length s + more = omega arith in
    rw (take_at h (replicate (size + more) 0) at h_is, ← drop-drop, drop_at h (replicate (size + more) 0) at h_is, drop_replicate, e, ← replicate-append-replicate)
    (simp append_assoc)

-- where no zeros are left
put_in_last : (h s : List ℕ) (at size : ℕ) → length h ≡ at → length s ≤ size → pasted (h ++ replicate size 0) at s ≡ h ++ field size s
unfolding pasted field
put_in_last h s at size h_is fits =
    rw (take_at h (replicate size 0) at h_is, ← drop-drop, drop_at h (replicate size 0) at h_is, drop_replicate) (simp append_assoc)

-- a put keeps the length
put_keeps : (b s b' : List ℕ) (at next : ℕ) → Fits b at s → Put b at s b' next → length b' ≡ length b
unfolding Fits Put pasted
put_keeps b s b' at next f p =
    rw p.0 (simp (length-append, length-take-le at b (omega (arith, f)), length-drop) (omega (arith, f)))

module _ (kind : ℕ) (s d : List ℕ) (hs : length s ≤ service_size) (hd : length d ≤ domain_size) where
  -- the record before its texts
  abbrev begun : List ℕ
  begun = set (set (set (replicate 320 0) 0 kind) 2 (length s)) 3 (length d)

  pub fits_service : Fits begun 4 s
  unfolding Fits
  fits_service = omega (arith, hs)

  module _ (b : List ℕ) (next : ℕ) (put : Put begun 4 s b next) where
    pub fits_domain : (at : ℕ) → at ≤ 67 → Fits b at d
    unfolding Fits
    fits_domain at h = omega (arith, h, hd, put_keeps begun s b 4 next fits_service put)

    -- the service and the domain in the places of as many zeros
    pub built : (b' : List ℕ) (next' : ℕ) → Put b 67 d b' next' → b' ≡ record_for (reference kind s d)
    unfolding record_for Put
    built b' next' put' =
        let h : List ℕ = kind ∷ 0 ∷ length s ∷ length d ∷ [] in
        let e : length (h ++ field 63 s) ≡ 67 = simp (field_length 63 s hs) in
        put'.0
        ∙ ap (λ (x : List ℕ). pasted x 67 d) (put.0 ∙ put_in_zeros h s 4 63 253 refl hs ∙ rw (← append_assoc))
        ∙ put_in_last (h ++ field 63 s) d 67 253 e hd
        ∙ rw append_assoc
