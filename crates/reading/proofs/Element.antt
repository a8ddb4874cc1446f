-- A length and an element are read exactly where they are written.
use Rattle.std.specs.Prelude.{ℕ, ◌+◌, ◌*◌, ◌/◌, ◌%◌, ◌≤◌, ◌<◌, ◌≡◌, refl, Bool, true, false, ◌&&◌, List, [], ◌∷◌, ◌++◌, length, take, drop, ltb, leb, eqb}
use Rattle.std.proofs.Common.{ap, append_assoc, arith, div-add-mod', lt-ltb, le-ltb, le-leb, ltb-false, eqb-true, length-append, take-append-drop, take_at, drop_at, length-take-le, ltb→lt, leb→le, eqb→eq}
use Rattle.rules.specs.Der.{length_bytes, element, header}
use Rattle.reading.specs.Reader.{Front, got, refused, long1, long2, read_length, Raw, raw, write_raw, content_after, read_element}
use Rattle.reading.specs.Answers.{no_got, shortest_got, enough_got, and_parts}

-- ---- lengths

pub length_complete : (n : ℕ) (r : List ℕ) → read_length (length_bytes n ++ r) ≡ got n r
unfolding read_length long1 long2 length_bytes
length_complete n r = go (ltb n 128) (ltb n 256) refl refl
  where
    go : (s t : Bool) → ltb n 128 ≡ s → ltb n 256 ≡ t → read_length (length_bytes n ++ r) ≡ got n r
    go true t e f = simp (e, length_bytes, read_length)
    go false true e f = simp (e, f, le-leb 128 n (ltb-false _ _ e), length_bytes, read_length)
    go false false e f =
        let big : 256 ≤ n = ltb-false _ _ f in
        simp (e, f, le-leb 1 (n / 256) (omega arith), lt-ltb (n % 256) 256 (omega arith), div-add-mod', length_bytes, read_length)

long1_sound : (b : List ℕ) {n : ℕ} {r : List ℕ} → long1 b ≡ got n r → 0x81 ∷ b ≡ length_bytes n ++ r
unfolding long1 length_bytes
long1_sound [] e = absurd (no_got e)
long1_sound (m ∷ b) {n} {r} e =
    let w = shortest_got (leb 128 m && ltb m 256) (got m b) e in
    let t = and_parts (leb 128 m) (ltb m 256) w.0 in
    let k : got m b ≡ got n r = w.1 in
    let h : n ≡ m = cc in
    rw h (simp (le-ltb m 128 (leb→le _ _ t.0), lt-ltb m 256 (ltb→lt _ _ t.1), length_bytes) (cc))

long2_sound : (b : List ℕ) {n : ℕ} {r : List ℕ} → long2 b ≡ got n r → 0x82 ∷ b ≡ length_bytes n ++ r
unfolding long2 length_bytes
long2_sound [] e = absurd (no_got e)
long2_sound (hi ∷ []) e = absurd (no_got e)
long2_sound (hi ∷ lo ∷ b) {n} {r} e =
    let w = shortest_got (leb 1 hi && ltb lo 256) (got (hi * 256 + lo) b) e in
    let t = and_parts (leb 1 hi) (ltb lo 256) w.0 in
    let k : got (hi * 256 + lo) b ≡ got n r = w.1 in
    let h : n ≡ hi * 256 + lo = cc in
    let p : 1 ≤ hi = leb→le _ _ t.0 in
    let q : lo < 256 = ltb→lt _ _ t.1 in
    let d : n / 256 ≡ hi = omega arith in
    let m : n % 256 ≡ lo = omega arith in
    simp (le-ltb n 128 (omega arith), le-ltb n 256 (omega arith), d, m, length_bytes) (cc)

pub length_sound : (b : List ℕ) {n : ℕ} {r : List ℕ} → read_length b ≡ got n r → b ≡ length_bytes n ++ r
unfolding read_length length_bytes
length_sound [] e = absurd (no_got e)
length_sound (x ∷ b) {n} {r} e = go (ltb x 128) (eqb x 0x81) refl refl
  where
    go : (s t : Bool) → ltb x 128 ≡ s → eqb x 0x81 ≡ t → x ∷ b ≡ length_bytes n ++ r
    go true t f g =
        let k : got x b ≡ got n r = rw f at e in
        let h : n ≡ x = cc in
        rw h (simp (f, length_bytes) (cc))
    go false true f g = rw (eqb-true x 0x81 g) (long1_sound b (rw (f, g) at e))
    go false false f g =
        let w = shortest_got (eqb x 0x82) (long2 b) (rw (f, g) at e) in
        rw (eqb→eq x 0x82 w.0) (long2_sound b w.1)

-- ---- elements

pub element_length : (t : ℕ) (c : List ℕ) → length (element t c) ≡ header c + length c
unfolding element header
element_length t c = simp length-append (omega arith)

pub element_append : (t : ℕ) (c r : List ℕ) → element t c ++ r ≡ t ∷ (length_bytes (length c) ++ (c ++ r))
unfolding element
element_append t c r = ap {B = List ℕ} (t ∷◌) (append_assoc (length_bytes (length c)) c r)

pub element_complete : (x : Raw) (r : List ℕ) → read_element (write_raw x ++ r) ≡ got x r
unfolding read_element content_after
element_complete x r =
    let c = x.content in
    simp (element_append, length_complete, le-leb (length c) (length (c ++ r)) (simp length-append (omega arith)), take_at c r (length c) refl, drop_at c r (length c) refl)

pub element_sound : (b : List ℕ) {x : Raw} {r : List ℕ} → read_element b ≡ got x r → b ≡ write_raw x ++ r
unfolding read_element content_after
element_sound [] e = absurd (no_got e)
element_sound (t ∷ b) {x} {r} e = go (read_length b) refl
  where
    go : (f : Front ℕ) → read_length b ≡ f → t ∷ b ≡ write_raw x ++ r
    go (refused w) f = absurd (no_got (rw f at e))
    go (got n s) f =
        let w = enough_got (leb n (length s)) (got (raw t (take n s)) (drop n s)) (rw f at e) in
        let k : got (raw t (take n s)) (drop n s) ≡ got x r = w.1 in
        let h : x ≡ raw t (take n s) = cc in
        let j : r ≡ drop n s = cc in
        rw (h, j) (simp (element_append, take-append-drop, length-take-le n s (leb→le _ _ w.0)) (cc (length_sound b f)))
