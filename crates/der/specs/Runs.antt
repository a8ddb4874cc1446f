-- A part of a string that is read as a run of elements, walked by the places of its elements; and a whole string, whose own
-- element holds such a run.
use Rattle.std.specs.Prelude.{ℕ, ◌+◌, ◌-◌, ◌≤◌, ◌<◌, Bool, not, ◌||◌, length, T, eqb}
use Rattle.std.proofs.Math.Path.{◌≡◌, refl}
use Rattle.std.proofs.Common.{sym, ap, ◌∙◌, arith, length-append}
use Rattle.std.proofs.Math.Bool.{true, false, or-true}
use Rattle.std.proofs.Math.Option.{Option, none, some, get_or}
use mathlib.Core.List.{List, [], ◌∷◌, ◌++◌, append-nil}
use Rattle.std.proofs.Math.Seq.{slice, slice_empty, length-slice, take-length}
use Rattle.rules.specs.Bytes.{some?}
use Rattle.rules.specs.Der.{element, header}
use Rattle.reading.specs.Reader.{then, is_some, got, then_f, Raw, raw, write_raw, read_element, tagged, alone, items}
use Rattle.reading.specs.Answers.{no_some, some_of, then_some, when_some, at_end_some}
use Rattle.reading.proofs.Element.{element_length, element_sound, element_complete}
use Rattle.reading.specs.Codec.{Codec}
use Rattle.reading.proofs.Runs.{items_end, items_open, items_next}
use Rattle.reading.specs.Strings.{read_name, read_san}
use Rattle.std.specs.Prelude.{Ok, Err}
use Rattle.der.specs.Places.{Answer, place_element, element_at, found?}
use Rattle.der.specs.Reads.{Read, found_read, refused_read}
use Rattle.der.specs.declared.Element.{Element}

-- ---- parts

module _ {A : Type 0} (f : Raw → Option A) (s : List ℕ) where
  -- the part from `at` to `end` is a run of elements that f reads
  unfoldable pub Readable : ℕ → ℕ → Type 0
  Readable at end = is_some (items f (slice at end s)) ≡ true

  -- what f reads in it
  unfoldable pub items_in : ℕ → ℕ → List A
  items_in at end = get_or (items f (slice at end s)) []

  -- what a run is read as
  pub run_is : (at end : ℕ) (l : List A) → items f (slice at end s) ≡ some l → Readable at end × (items_in at end ≡ l)
  unfolding Readable items_in
  run_is at end l e = (rw e, rw e)

  -- a part of no bytes is a run of no elements
  pub no_items : (at : ℕ) → items_in at at ≡ []
  unfolding items_in
  no_items at = rw (slice_empty at s) (rw (items_end f))

  pub no_run : (at : ℕ) → Readable at at
  unfolding Readable
  no_run at = rw (slice_empty at s) (rw (items_end f))

-- a part of the string that is a run of elements that f reads
pub record Run {A : Type 0} (f : Raw → Option A) (s : List ℕ) (at end : ℕ) : Type 0 where
  pub order : at ≤ end
  pub fits : end ≤ length s
  pub readable : Readable f s at end

-- the first element of a run, what it is read as, and the others
pub record First {A : Type 0} (f : Raw → Option A) (s : List ℕ) (at end tag start next : ℕ) : Type 0 where
  pub read : Read s at end tag start next
  pub item : A
  pub item_is : f (raw tag (slice start next s)) ≡ some item
  pub others : Run f s next end
  pub list : items_in f s at end ≡ item ∷ items_in f s next end

-- an element that is found
found_some : {X : Type 0} (e : Answer) → found? e ≡ true → ((x : Element) → e ≡ Ok x → X) → X
found_some (Ok x) f k = k x refl
found_some (Err why) f k = let z : ◌≡◌ {A = ℕ} 0 1 = cc in absurd (omega arith)

module _ {A : Type 0} (f : Raw → Option A) (s : List ℕ) (at end : ℕ) (run : Run f s at end) (more : at < end) where
  -- an element stands at the front of a run that has not ended
  pub run_found : found? (element_at s at end) ≡ true
  unfolding Readable
  run_found = go (found? (element_at s at end)) refl
    where
      go : (q : Bool) → found? (element_at s at end) ≡ q → q ≡ true
      go true e = refl
      go false e =
          let n : items f (slice at end s) ≡ none =
          items_open f (slice at end s) (omega (arith, length-slice at end s run.fits)) ∙ refused_read s end run.fits at (omega arith) _ e in
          rw n at run.readable

  -- and an element that is read there is the first of the run
  pub first_read : (t b n : ℕ) → Read s at end t b n → First f s at end t b n
  unfolding Readable items_in
  first_read t b n r = go (f (raw t (slice b n s))) (items f (slice n end s)) refl refl
    where
      front : items f (slice at end s) ≡ then (f (raw t (slice b n s))) (λ a. then (items f (slice n end s)) (λ l. some (a ∷ l)))
      front = items_next f (slice at end s) _ _ r.reads

      go : (o : Option A) (l : Option (List A)) → f (raw t (slice b n s)) ≡ o → items f (slice n end s) ≡ l → First f s at end t b n
      go none l p q =
          let k : false ≡ true = rw (front, p) at run.readable in
          let z : ◌≡◌ {A = ℕ} 0 1 = cc in absurd (omega arith)
      go (some a) none p q =
          let k : false ≡ true = rw (front, p, q) at run.readable in
          let z : ◌≡◌ {A = ℕ} 0 1 = cc in absurd (omega arith)
      go (some a) (some l) p q = record {
        read = r;
        item = a;
        item_is = p;
        others = record { order = r.rest; fits = run.fits; readable = rw q };
        list = rw (front, p, q);
      }

  module _ (e : Answer) (e_is : e ≡ element_at s at end) where
    -- the same of what the code finds
    pub no_element_lem : found? e ≡ false → ⊥
    no_element_lem q =
        let k : false ≡ true = sym q ∙ ap found? e_is ∙ run_found in
        let z : ◌≡◌ {A = ℕ} 0 1 = cc in omega arith

    pub first : (x : Element) → e ≡ Ok x → First f s at end x.tag x.start x.next
    first x found = first_read x.tag x.start x.next (found_read s end run.fits at (omega arith) x (sym e_is ∙ found))

  -- and where the code has read none yet
  pub with_first : {X : Type 0} → ((t b n : ℕ) → First f s at end t b n → X) → X
  with_first k = found_some (element_at s at end) run_found λ x found. k x.tag x.start x.next (first _ refl x found)

-- ---- parts as they are written

-- the element x stands at `at`, its content from `start` to `next`
pub record Stands (s : List ℕ) (at end : ℕ) (x : Raw) (start next : ℕ) : Type 0 where
  pub bytes_are : slice at end s ≡ write_raw x ++ slice next end s
  pub content_is : slice start next s ≡ x.content
  pub start_is : start ≡ at + header x.content
  pub next_is : next ≡ at + length (write_raw x)
  pub long : next ≡ start + length x.content

-- an element that is read stands so
pub standing : (s : List ℕ) (at end t b n : ℕ) → end ≤ length s → Read s at end t b n → (x : Raw) → raw t (slice b n s) ≡ x → Stands s at end x b n
standing s at end t b n fits r x x_is =
    let bytes : slice at end s ≡ write_raw x ++ slice n end s = element_sound (slice at end s) r.reads ∙ ap (λ y. write_raw y ++ slice n end s) x_is in
    let content : slice b n s ≡ x.content = ap (λ y. y.content) x_is in
    let size : end - at ≡ header x.content + length x.content + (end - n) =
    sym (length-slice at end s fits) ∙ ap length bytes ∙ simp (length-append, element_length, length-slice n end s fits) in
    let inner : n - b ≡ length x.content = sym (length-slice b n s (omega (arith, r.rest))) ∙ ap length content in
    record {
      bytes_are = bytes;
      content_is = content;
      start_is = omega (arith, r.head, r.body, r.rest);
      next_is = simp element_length (omega (arith, r.head, r.body, r.rest));
      long = omega (arith, r.body);
    }

module _ {A : Type 0} {f : Raw → Option A} {good : A → Bool} {write : A → Raw} (C : Codec f good write) where
  -- the good value a stands at `at`, as it is written
  pub record Written (s : List ℕ) (at end t b n : ℕ) (a : A) : Type 0 where
    pub good_is : T (good a)
    pub raw_is : raw t (slice b n s) ≡ write a
    pub stands : Stands s at end (write a) b n

  -- as the first element of a run does
  pub written : (s : List ℕ) (at end t b n : ℕ) → end ≤ length s → (w : First f s at end t b n) → Written s at end t b n w.item
  written s at end t b n fits w =
      let p = C.sound (raw t (slice b n s)) w.item_is in
      record { good_is = p.0; raw_is = p.1; stands = standing s at end t b n fits w.read _ p.1 }

-- ---- whole strings

-- a string that has been validated: absent, or read
unfoldable pub validated : {A : Type 0} → (List ℕ → Option (List A)) → List ℕ → Bool
validated read s = not (some? s) || is_some (read s)

-- what was read; nothing where the string is absent
unfoldable pub names_of : {A : Type 0} → (List ℕ → Option (List A)) → List ℕ → List A
names_of read s = get_or (read s) []

module _ {A : Type 0} (read : List ℕ → Option (List A)) where
  -- how a caller shows it: the string is empty, or its reader reads it
  pub absent_valid : (s : List ℕ) → length s ≡ 0 → validated read s ≡ true
  unfolding validated
  absent_valid [] e = refl
  absent_valid (x ∷ s) e = absurd (omega arith)

  pub read_valid : (s : List ℕ) → is_some (read s) ≡ true → validated read s ≡ true
  unfolding validated
  read_valid s e = rw e (or-true (not (some? s)))

  -- what it says
  pub valid_cases : {X : Type 0} (s : List ℕ) → validated read s ≡ true → (s ≡ [] → X) → ((l : List A) → read s ≡ some l → X) → X
  unfolding validated
  valid_cases [] e f g = f refl
  valid_cases (x ∷ s) e f g = some_of (read (x ∷ s)) e g

-- where the content of the string's own element starts; 0 in an absent string
unfoldable pub start_of : Answer → ℕ
start_of (Ok e) = e.start
start_of (Err why) = 0

-- where an element ends
unfoldable pub end_of : Answer → ℕ
end_of (Ok e) = e.next
end_of (Err why) = 0

unfoldable pub content_start : List ℕ → ℕ
content_start s = start_of (element_at s 0 (length s))

module _ (s : List ℕ) (e : Answer) (e_is : e ≡ element_at s 0 (length s)) where
  -- the content of the string's element
  pub start_found : (x : Element) → e ≡ Ok x → x.start ≡ content_start s
  unfolding content_start start_of
  start_found x f = rw (← e_is, f)

  -- a string without an element, as an absent one
  pub start_none : found? e ≡ false → 0 ≡ content_start s
  unfolding content_start start_of
  start_none f = go e e_is f
    where
      go : (e : Answer) → e ≡ element_at s 0 (length s) → found? e ≡ false → 0 ≡ content_start s
      go (Ok x) g f = let z : ◌≡◌ {A = ℕ} 0 1 = cc in absurd (omega arith)
      go (Err why) g f = rw (← g)

  -- no reader of an element reads it
  pub nothing_read : {B : Type 0} (K : Raw → List ℕ → Option B) → found? e ≡ false → then_f (read_element s) K ≡ none
  nothing_read K q = rw (take-length s) at (refused_read s (length s) (omega arith) 0 (omega arith) K (rw e_is at q))

-- a SEQUENCE that is read has its content to the end of the string
pub record Content {A : Type 0} (f : List ℕ → Option A) (s : List ℕ) (a : A) (at : ℕ) : Type 0 where
  pub within : at ≤ length s
  pub reads : f (slice at (length s) s) ≡ some a

pub content_read : {A : Type 0} (f : List ℕ → Option A) (s : List ℕ) (a : A) → alone (tagged 0x30 f) s ≡ some a → Content f s a (content_start s)
content_read f s a p = go (found? (element_at s 0 (length s))) refl
  where
    inside : (x : Element) → element_at s 0 (length s) ≡ Ok x → Content f s a (content_start s)
    inside x e =
        let r = found_read s (length s) (omega arith) 0 (omega arith) x e in
        at_end_some (slice x.next (length s) s) _ (rw r.reads at (rw (← take-length s) at p)) λ nothing_left w.
        when_some (eqb x.tag 0x30) _ w λ tag_is y.
        let n_is : x.next ≡ length s = omega (arith, r.rest, length-slice x.next (length s) s (omega arith), ap length nothing_left) in
        rw (← start_found s _ (sym e) x refl) (record { within = omega (arith, r.body, r.rest); reads = rw n_is at y })

    go : (q : Bool) → found? (element_at s 0 (length s)) ≡ q → Content f s a (content_start s)
    go true e = found_some (element_at s 0 (length s)) e inside
    go false e = absurd (no_some (sym (nothing_read s _ refl _ e) ∙ p))

-- and it starts behind the header that is written before it
pub content_start_lem : (s c : List ℕ) → s ≡ element 0x30 c → content_start s ≡ header c
unfolding content_start start_of element_at place_element
content_start_lem s c e =
    let w : slice 0 (length s) s ≡ write_raw (raw 0x30 c) ++ [] = take-length s ∙ e ∙ sym (append-nil _) in
    let q : read_element (slice 0 (length s) s) ≡ got (raw 0x30 c) [] = rw w (element_complete (raw 0x30 c) []) in
    rw q (omega (arith, ap length e, element_length 0x30 c))

-- from `at` to the end of the string stands the run of the items l
pub record Filled {A : Type 0} (f : Raw → Option A) (s : List ℕ) (l : List A) (at : ℕ) : Type 0 where
  pub elements : Run f s at (length s)
  pub list : items_in f s at (length s) ≡ l

pub filled : {A : Type 0} (f : Raw → Option A) (s : List ℕ) (l : List A) (at : ℕ) → at ≤ length s → items f (slice at (length s) s) ≡ some l → Filled f s l at
filled f s l at within e =
    let k = run_is f s at (length s) l e in
    record { elements = record { order = within; fits = omega arith; readable = k.0 }; list = k.1 }

-- no items, in an absent string
pub absent_filled : {A : Type 0} (f : Raw → Option A) → Filled f [] [] (content_start [])
unfolding content_start start_of element_at place_element read_element
absent_filled f = record { elements = record { order = omega arith; fits = omega arith; readable = no_run f [] 0 }; list = no_items f [] 0 }

-- the content of a validated SAN is the run of its entries
pub san_filled : (s : List ℕ) → validated read_san s ≡ true → Filled read_name s (names_of read_san s) (content_start s)
unfolding names_of read_san read_element
san_filled s valid =
    valid_cases read_san s valid (λ e. rw e (absent_filled read_name)) λ l p.
    let w = content_read _ s l p in
    then_some (items read_name (slice (content_start s) (length s) s)) _ w.reads λ m y z.
    when_some (some? m) (some m) z λ any j.
    let m_is : m ≡ l = cc in
    rw p (filled read_name s l (content_start s) w.within (rw m_is at y))
