-- A reader of what a grammar writes is put together from parts.
use Prim.Native.Nat.{ℕ, zero, suc, ◌+◌, ◌-◌, ◌≤◌}
use Rattle.std.specs.Prelude.{◌≡◌, Bool, ◌&&◌, length, T, eqb, leb}
use Rattle.std.proofs.Math.Path.{refl}
use Rattle.std.proofs.Common.{◌∙◌, arith, length-append, eqb→eq, leb→le, eq-eqb, le-leb}
use Rattle.std.proofs.Math.Option.{Option, some}
use mathlib.Core.List.{List, [], ◌∷◌, ◌++◌, append-nil}
use Rattle.rules.specs.Bytes.{all}
use Rattle.rules.specs.Der.{run}
use Rattle.reading.specs.Reader.{then, got, Raw, raw, write_raw, read_element, as_is, also, via, tagged, numbered_by, alone, two, read_items, items}
use Rattle.reading.specs.Answers.{no_some, then_some, when_some, then_f_some, at_end_some, and_parts, both, is_true}
use Rattle.reading.proofs.Element.{element_append, element_complete, element_sound}
use Rattle.reading.specs.Codec.{Codec}

-- what is written in the same way is the same
pub unique : {A B : Type 0} {read : B → Option A} {good : A → Bool} {write : A → B} → Codec read good write
    → (a a' : A) → T (good a) → T (good a') → write a ≡ write a' → a ≡ a'
unique C a a' g g' e = cc (C.complete a g, C.complete a' g')

pub as_is_c : {A : Type 0} (good : A → Bool) → Codec (as_is good) good (λ a. a)
as_is_c good = record {
  sound = λ b {a} e.
      when_some (good b) _ e λ t r.
      let k : a ≡ b = cc in
      rw k (t, refl);
  complete = λ a g. simp (is_true (good a) g);
}

module _ {A B : Type 0} {read : B → Option A} {good : A → Bool} {write : A → B} (C : Codec read good write) where
  pub also_c : (h : A → Bool) → Codec (also h read) (λ a. good a && h a) write
  also_c h = record {
    sound = λ b {a} e.
        then_some (read b) _ e λ a' p q.
        when_some (h a') _ q λ t r.
        let k : a ≡ a' = cc in
        let z = C.sound b p in
        rw k (both (good a') (h a') z.0 t, z.1);
    complete = λ a g.
        let t = and_parts (good a) (h a) g in
        simp (C.complete a t.0, is_true (h a) t.1);
  }

  -- another form of the good values: there and back on each side
  pub via_c : {A' : Type 0} {good' : A' → Bool} (to : A → A') (from : A' → A)
      → ((a : A) → T (good a) → T (good' (to a)) × (from (to a) ≡ a))
      → ((a' : A') → T (good' a') → T (good (from a')) × (to (from a') ≡ a'))
      → Codec (via to read) good' (λ a'. write (from a'))
  via_c to from there back = record {
    sound = λ b {a = a'} e.
        then_some (read b) _ e λ a p q.
        let k : a' ≡ to a = cc in
        let z = C.sound b p in
        let w = there a z.0 in
        rw (k, w.1) (w.0, z.1);
    complete = λ a' g.
        let w = back a' g in
        simp (C.complete (from a') w.0, w.1);
  }

  -- another way to say what is written
  pub written_c : {write' : A → B} → ((a : A) → write a ≡ write' a) → Codec read good write'
  written_c same = record {
    sound = λ b e. ((C.sound b e).0, (C.sound b e).1 ∙ same _);
    complete = λ a g. rw (← same a) (C.complete a g);
  }

module _ {A : Type 0} {read : List ℕ → Option A} {good : A → Bool} {write : A → List ℕ} (C : Codec read good write) where
  pub tagged_c : (t : ℕ) → Codec (tagged t read) good (λ a. raw t (write a))
  tagged_c t = record {
    sound = λ x {a} e.
        when_some (eqb x.tag t) _ e λ w r.
        let z = C.sound x.content r in
        let p : x.tag ≡ t = eqb→eq x.tag t w in
        (z.0, λ i. raw (p i) (z.1 i));
    complete = λ a g. simp (eq-eqb t t refl, C.complete a g);
  }

pub numbered_by_c : {A : Type 0} {read : List ℕ → Option (List A)} {good : List A → Bool} {write : List A → List ℕ} (t : ℕ) → Codec read good write
    → Codec (numbered_by t read) (λ g. good g.members) (λ g. raw (t + g.number) (write g.members))
numbered_by_c {read} {good} {write} t C = record {
  sound = λ x {a = g} e.
      when_some (leb t x.tag) _ e λ le r.
      then_some (read x.content) _ r λ m p q.
      let k : g ≡ record { number = x.tag - t; members = m } = cc in
      let z = C.sound x.content p in
      let h : t ≤ x.tag = leb→le _ _ le in
      let n : x.tag ≡ t + (x.tag - t) = omega arith in
      rw k (z.0, λ i. raw (n i) (z.1 i));
  complete = λ g z.
      let n : t + g.number - t ≡ g.number = omega arith in
      simp (le-leb t (t + g.number) (omega arith), C.complete g.members z, n);
}

module _ {A : Type 0} {read : Raw → Option A} {good : A → Bool} {write : A → Raw} (C : Codec read good write) where
  pub alone_c : Codec (alone read) good (λ a. write_raw (write a))
  alone_c = record {
    sound = λ b {a} e.
        then_f_some (read_element b) _ e λ x r p q.
        at_end_some r _ q λ s t.
        let z = C.sound x t in
        (z.0, element_sound b p ∙ rw (s, z.1) (append-nil _));
    complete = λ a g.
        let k : read_element (write_raw (write a)) ≡ got (write a) [] = rw (append-nil (write_raw (write a))) at (element_complete (write a) []) in
        rw k (C.complete a g);
  }

pub two_c : {A B : Type 0} {f : Raw → Option A} {f' : Raw → Option B} {g : A → Bool} {g' : B → Bool} {w : A → Raw} {w' : B → Raw} → Codec f g w → Codec f' g' w'
    → Codec (two f f') (λ p. g p.0 && g' p.1) (λ p. write_raw (w p.0) ++ write_raw (w' p.1))
two_c {f} {f'} {g} {g'} {w} {w'} C D = record {
  sound = λ b {a = q} e.
      then_f_some (read_element b) _ e λ x r p s.
      then_some (f x) _ s λ a t u.
      then_some (alone f' r) _ u λ d y z.
      let k : q ≡ (a, d) = cc in
      let m = C.sound x t in
      let n = (alone_c D).sound r y in
      rw k (both (g a) (g' d) m.0 n.0, element_sound b p ∙ rw (m.1, n.1));
  complete = λ q z.
      let t = and_parts (g q.0) (g' q.1) z in
      let n = (alone_c D).complete q.1 t.1 in
      simp (element_complete, C.complete q.0 t.0) (rw n);
}

-- ---- a run of elements

-- an element at the front is one item more
items_step : {A : Type 0} (f : Raw → Option A) (n : ℕ) (x : Raw) (r : List ℕ)
    → read_items f (suc n) (write_raw x ++ r) ≡ then (f x) (λ a. then (read_items f n r) (λ l. some (a ∷ l)))
unfolding read_items
items_step f n x r =
    let k = rw element_append at (element_complete x r) in
    rw element_append (rw k)

module _ {A : Type 0} {read : Raw → Option A} {good : A → Bool} {write : A → Raw} (C : Codec read good write) where
  abbrev write_item : A → List ℕ
  write_item a = write_raw (write a)

  items_sound : (n : ℕ) (b : List ℕ) {l : List A} → read_items read n b ≡ some l → T (all good l) × (b ≡ run write_item l)
  unfolding read_items run
  items_sound zero [] {l} e =
      let q : l ≡ [] = cc in
      rw q (tt, refl)
  items_sound zero (x ∷ b) e = absurd (no_some e)
  items_sound (suc n) [] {l} e =
      let q : l ≡ [] = cc in
      rw q (tt, refl)
  items_sound (suc n) (x ∷ b) {l} e =
      then_f_some (read_element (x ∷ b)) _ e λ y r p q.
      then_some (read y) _ q λ a s t.
      then_some (read_items read n r) _ t λ l' u v.
      let k : l ≡ a ∷ l' = cc in
      let z = C.sound y s in
      let ih = items_sound n r u in
      rw k (both (good a) (all good l') z.0 ih.0, element_sound (x ∷ b) p ∙ rw (z.1, ih.1))

  items_complete : (n : ℕ) (l : List A) → T (all good l) → length (run write_item l) ≤ n → read_items read n (run write_item l) ≡ some l
  unfolding read_items run
  items_complete zero [] g h = refl
  items_complete (suc n) [] g h = refl
  items_complete zero (a ∷ l) g h = absurd (omega (arith, simp element_append at h))
  items_complete (suc n) (a ∷ l) g h =
      let t = and_parts (good a) (all good l) g in
      let ih = items_complete n l t.1 (omega (arith, simp (element_append, length-append) at h)) in
      simp (items_step, C.complete a t.0, ih)

  pub items_c : Codec (items read) (all good) (run write_item)
  items_c = record {
    sound = λ b e. items_sound (length b) b e;
    complete = λ l g. items_complete (length (run write_item l)) l g (omega arith);
  }
