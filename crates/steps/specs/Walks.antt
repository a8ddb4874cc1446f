-- A walk from a cursor shows a list of names, one after the other, with the rows of that list: `san_walk`.
use Prim.Native.Nat.{ℕ, zero, suc, ◌+◌, ◌-◌, ◌≤◌}
use Rattle.std.specs.Prelude.{◌≡◌, refl, Bool, true, false, eqb, Ok, Err, Some, None}
use Rattle.std.specs.Prelude as std
use Rattle.std.proofs.Math.Path.{sym}
use Rattle.std.proofs.Common.{ap, subst, ◌∙◌, arith, add-one}
use Rattle.std.proofs.Math.Option.{Option, some}
use mathlib.Core.List.{List, [], ◌∷◌}
use Rattle.std.proofs.Math.ListN.{length}
use Rattle.std.proofs.Math.Seq.{slice, length-slice, take-length}
use borrow.Author.Tests.{lt-ltb, le-ltb, eqb-true, eqb-false}
use Rattle.rules.specs.Bytes.{some?}
use Rattle.rules.specs.Der.{element, header, run}
use Rattle.rules.specs.San.{GeneralName, good_name, name_kind, write_name, rows_of_names, san_grammar}
use Rattle.rules.specs.declared.Row.{Row}
use Rattle.reading.specs.Reader.{also, Raw, raw, write_raw, tagged, alone, items}
use Rattle.reading.specs.Strings.{name_of, read_name, read_san}
use Rattle.reading.specs.Answers.{no_some, then_some, when_some}
use Rattle.reading.proofs.Element.{element_length}
use Rattle.reading.proofs.Runs.{items_end, items_open, items_next, items_some}
use Rattle.reading.proofs.Codec.{items_c}
use Rattle.reading.proofs.Codecs.{name_c}
use Rattle.der.specs.Places.{Answer, element_at, tagged_at, found?}
use Rattle.der.specs.Reads.{Read, found_read, refused_read, whole_element, tagged_read, alone_none, alone_open, alone_found}
use Rattle.der.proofs.Elements.{element_none}
use Rattle.der.specs.declared.Element.{Element}
use Rattle.der.specs.declared.ElementError.TheVariants.{Truncated}
use Rattle.entries.specs.Entries.{text_tag_of, text_of, named, place_name, name_at}
use Rattle.entries.specs.declared.Name.{Name}
use Rattle.steps.specs.Steps.{next_group, cursor, shown, start, entry, step}
use Rattle.steps.specs.Rows.{rows_by}
use Rattle.steps.specs.declared.Cursor.{Cursor}
use Rattle.steps.specs.declared.Source.{Source}
use Rattle.steps.specs.declared.Source.TheVariants.{San}
use Rattle.steps.specs.declared.Step.{Step}

-- from this cursor the steps show these names, and these are their rows; then no name is left
pub data Walk {A : Type 0} (step : Cursor → std.Option Step) : Cursor → List A → List Row → Type 0 where
  done : {c : Cursor} → step c ≡ None → Walk step c [] []
  more : {c : Cursor} {a : A} {l : List A} {row : Row} {rows : List Row} {t : Step}
      → step c ≡ Some t → t.row ≡ row → Walk step t.next l rows → Walk step c (a ∷ l) (row ∷ rows)

-- as many steps as there are names write the rows of the list, and more steps write no more
pub walk_rows : {A : Type 0} {step : Cursor → std.Option Step} {c : Cursor} {l : List A} {rows : List Row}
    → Walk step c l rows → (k : ℕ) → length l ≤ k → rows_by step k c ≡ rows
unfolding rows_by
walk_rows (done e) zero h = refl
walk_rows (done e) (suc k) h = rw e
walk_rows (more e p w) zero h = absurd (omega arith)
walk_rows (more e p w) (suc k) h = rw e (λ i. p i ∷ walk_rows w k (omega arith) i)

pub not_empty : (b : List ℕ) → (b ≡ [] → ⊥) → 1 ≤ length b
not_empty [] h = absurd (h refl)
not_empty (x ∷ b) h = omega arith

-- ---- a run that is read has an element in front

module _ {A X : Type 0} (f : Raw → Option A) (s : List ℕ) (at end : ℕ) (h : at ≤ end) (fits : end ≤ length s) (a : A) (l : List A) where
  pub run_cons : items f (slice at end s) ≡ some (a ∷ l)
      → ((x : Element) → element_at s at end ≡ Ok x → Read s at end x.tag x.start x.next → f (raw x.tag (slice x.start x.next s)) ≡ some a → items f (slice x.next end s) ≡ some l → X) → X
  run_cons e k = go (element_at s at end) refl
    where
      empty : slice at end s ≡ [] → ⊥
      empty q =
          let p : some [] ≡ some (a ∷ l) = rw (q, items_end f) at e in
          let z : ◌≡◌ {A = ℕ} 0 1 = cc in omega arith

      size : 1 ≤ length (slice at end s)
      size = not_empty (slice at end s) empty

      bad : found? (element_at s at end) ≡ false → X
      bad q = absurd (no_some (sym (items_open f (slice at end s) size ∙ refused_read s end fits at h _ q) ∙ e))

      go : (o : Answer) → element_at s at end ≡ o → X
      go (Err why) q = bad (rw q)
      go (Ok x) q =
          let d = found_read s end fits at h x q in
          then_some (f (raw x.tag (slice x.start x.next s))) _ (sym (items_next f _ _ _ d.reads) ∙ e) λ a' u v.
          then_some (items f (slice x.next end s)) _ v λ l' w y.
          let i : a ≡ a' = cc in
          let j : l ≡ l' = cc in
          k x q d (u ∙ ap {B = Option A} some (sym i)) (w ∙ ap {B = Option (List A)} some (sym j))

-- ---- a run that is read as no element ends where it starts, and no name stands there

pub run_over : {A : Type 0} (f : Raw → Option A) (s : List ℕ) (n end : ℕ) → n ≤ end → end ≤ length s → items f (slice n end s) ≡ some [] → n ≡ end
run_over f s n end h fits e = go (eqb n end) refl
  where
    go : (v : Bool) → eqb n end ≡ v → n ≡ end
    go true w = eqb-true n end w
    go false w =
        let ne = eqb-false n end w in
        let k : 1 ≤ length (slice n end s) = omega (arith, length-slice n end s fits) in
        absurd (no_some (rw e at (items_some f (slice n end s) k)))

pub step_over : (source : Source) (s : List ℕ) (at i : ℕ) → at ≤ length s → step source s (cursor at at i) ≡ None
unfolding step entry
step_over source s at i h =
    let none : element_at s at at ≡ Err Truncated = sym (element_none s at h at (omega arith) (omega arith)) in
    rw (le-ltb (length s) at h, le-ltb at at (omega arith), none)

-- ---- SAN

-- the element of a name that is read is as long as the name is written
module _ (s : List ℕ) (at end t b n : ℕ) (fits : end ≤ length s) (d : Read s at end t b n) where
  pub written_length : (w : List ℕ) → write_raw (raw t (slice b n s)) ≡ w → length w ≡ n - at
  written_length w e =
      sym (ap length (whole_element s at end t b n fits d ∙ e)) ∙ length-slice at n s (omega (arith, d.rest))

module _ (s : List ℕ) where
  san_step_is : (at end i : ℕ) (e : Element) (m : Name) → at ≤ end → end ≤ length s → element_at s at end ≡ Ok e → name_at s e.tag e.start e.next ≡ Ok m
      → step San s (cursor at end i) ≡ Some (shown m.kind at e.next i (cursor e.next end (next_group i e.next)))
  unfolding step entry
  san_step_is at end i e m h fits found named = rw (le-ltb (length s) end fits, le-ltb end at h, found, named)

  pub name_of_lem : (x : Raw) (m : GeneralName) → read_name x ≡ some m → name_of x ≡ some m
  unfolding read_name
  name_of_lem x m e =
      then_some (name_of x) _ e λ n p q.
      when_some (good_name n) (some n) q λ t r.
      p ∙ r

  pub names_walk : (l : List GeneralName) (at end i : ℕ) → at ≤ end → end ≤ length s → i ≤ at → items read_name (slice at end s) ≡ some l
      → Walk (step San s) (cursor at end i) l (rows_of_names at i l)
  unfolding rows_of_names name_at place_name next_group write_name
  names_walk [] at end i h fits g e =
      let over = run_over read_name s at end h fits e in
      done (ap (λ x. step San s (cursor x end i)) over ∙ step_over San s end i fits)
  names_walk (m ∷ l) at end i h fits g e =
      run_cons read_name s at end h fits m l e λ x found d q r.
      let n = x.next in
      let o = name_of_lem (raw x.tag (slice x.start n s)) m q in
      let y : name_at s x.tag x.start n ≡ named (name_kind m) (text_tag_of m) (n - length (text_of m)) = rw o in
      let len : length (write_name m) ≡ n - at =
      written_length s at end x.tag x.start n fits d (write_name m) (ap write_raw (name_c.sound (raw x.tag (slice x.start n s)) q).1) in
      let there : at + length (write_name m) ≡ n = omega (arith, d.head, d.body) in
      let group : next_group i n ≡ suc i = rw (lt-ltb i n (omega (arith, d.head, d.body))) (add-one i) in
      more (san_step_is at end i x _ h fits found y)
      (λ j. record { kind = name_kind m; start = at; length = sym len j; group = i })
      (rw (group, there) (names_walk l n end (suc i) d.rest fits (omega (arith, d.head, d.body)) r))

-- ---- where an element's content starts

pub content_start_lem : (s : List ℕ) (at end t b n : ℕ) → end ≤ length s → Read s at end t b n → b ≡ at + header (slice b n s)
content_start_lem s at end t b n fits d =
    let k = written_length s at end t b n fits d (element t (slice b n s)) refl in
    omega (arith, k, element_length t (slice b n s), length-slice b n s (omega (arith, d.rest)), d.head, d.body)

-- the outermost element of a string that is read
module _ {A X : Type 0} (f : List ℕ → Option A) (s : List ℕ) (a : A) where
  pub outer_read : alone (tagged 0x30 f) s ≡ some a
      → ((x : Element) → tagged_at s 0 (length s) 0x30 ≡ Ok x → x.next ≡ length s → Read s 0 (length s) x.tag x.start (length s)
      → f (slice x.start (length s) s) ≡ some a → X) → X
  outer_read e k = go (tagged_at s 0 (length s) 0x30) refl
    where
      at_start : alone (tagged 0x30 f) (slice 0 (length s) s) ≡ some a
      at_start = ap (alone (tagged 0x30 f)) (take-length s) ∙ e

      bad : found? (tagged_at s 0 (length s) 0x30) ≡ false → X
      bad q = absurd (no_some (sym (alone_none s (length s) (omega arith) 0 (omega arith) 0x30 f (tagged_at s 0 (length s) 0x30) refl q) ∙ at_start))

      go : (o : Answer) → tagged_at s 0 (length s) 0x30 ≡ o → X
      go (Err why) q = bad (rw q)
      go (Ok x) q = tell (eqb x.next (length s)) refl
        where
          tell : (v : Bool) → eqb x.next (length s) ≡ v → X
          tell true w =
              let y : x.next ≡ length s = eqb-true x.next (length s) w in
              k x q y
              (subst (Read s 0 (length s) x.tag x.start) y (tagged_read s (length s) (omega arith) 0 (omega arith) 0x30 f (tagged_at s 0 (length s) 0x30) refl x q))
              (sym (alone_found s (length s) (omega arith) 0 (omega arith) 0x30 f (tagged_at s 0 (length s) 0x30) refl x q y) ∙ at_start)
          tell false w =
              absurd (no_some (sym (alone_open s (length s) (omega arith) 0 (omega arith) 0x30 f (tagged_at s 0 (length s) 0x30) refl x q (eqb-false x.next (length s) w)) ∙ at_start))

-- a SAN that is read: from its start the steps show its list, with the rows of that list
pub san_walk : (s : List ℕ) (l : List GeneralName) → read_san s ≡ some l → Walk (step San s) (start San s) l (san_grammar.rows l)
unfolding read_san start write_name
san_walk s l e =
    outer_read (also some? (items read_name)) s l e λ x found whole d q.
    then_some (items read_name (slice x.start (length s) s)) _ q λ l' u v.
    when_some (some? l') (some l') v λ y z.
    let i : items read_name (slice x.start (length s) s) ≡ some l = u ∙ z in
    let c = ((items_c name_c).sound (slice x.start (length s) s) i).1 in
    let st : x.start ≡ header (run write_name l) = content_start_lem s 0 (length s) x.tag x.start (length s) (omega arith) d ∙ ap (λ x. 0 + header x) c ∙ omega arith in
    rw (found, whole) (subst (λ y. Walk (step San s) (cursor x.start (length s) 0) l (rows_of_names y 0 l)) st (names_walk s l x.start (length s) 0 d.body (omega arith) (omega arith) i))
