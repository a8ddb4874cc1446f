-- The laws that the functions' proofs search, and those of the walk that notes the dNSNames of a SAN.
use Prim.Native.Nat.{ℕ, ◌-◌, ◌/◌, ◌%◌, ◌^◌, ◌<◌, ◌≤◌}
use mathlib.Core.Path.{◌≡◌, refl, sym, ap, ◌∙◌}
use mathlib.Core.Option.{some}
use mathlib.Core.Bool.{Bool, true, false}
use mathlib.Core.List.{List}
use native.Mathlib.Omega.{arith}
use lib.ListN.{length, get_or, take, drop, set}
use lib.Seq.{slice}
use lib.Dec.{eqb}
use lib.Bits.{bit_or}
use Rattle.std.specs.Prelude as std
use Rattle.std.specs.Prelude.{Some, None, Ok, Err}
use Rattle.rules.specs.Bytes.{any, after}
use Rattle.rules.specs.San.{GeneralName}
use Rattle.rules.specs.Names.{is, dot, where_given}
use Rattle.rules.specs.Matching.{tagged_text}
use Rattle.reading.specs.Strings.{read_name, read_san}
use Rattle.der.specs.Places.{Answer, element_at, found?}
use Rattle.der.specs.Reads.{part_is}
use Rattle.der.specs.declared.Element.{Element}
use Rattle.der.specs.declared.ElementError.{ElementError}
use Rattle.der.specs.Runs.{Run, items_in, end_of, no_items, validated, names_of, start_found, nothing_read, Filled, san_filled}
use Rattle.entries.specs.Entries.{whole_at, text_place}
use Rattle.entries.proofs.Steps.{with_entry, entry_room, step_fits}
use Rattle.entries.proofs.Texts.{own_tagged, text_there, text_within, text_not_there}
use Rattle.filter.specs.Keys.{key_of, has, noted_text, has_name, has_all, may_match}
use Rattle.filter.proofs.Keys as keys
use Rattle.filter.proofs.Table.{Within, within_self, noted, has_noted, has_within, within_noted, bit_is}

-- ---- is_noted, may_match

pub has_is : (table : List ℕ) (k : ℕ) → eqb (get_or table (k / 8) 0 / 2 ^ (k % 8) % 2) 1 ≡ has table k
unfolding has
has_is table k = refl

module _ (table domain : List ℕ) (k : ℕ) (k_is : k ≡ key_of domain) (noted : Bool) (is_noted_lem : noted ≡ has table k) where
  pub may_whole : noted ≡ true → true ≡ may_match table domain
  unfolding may_match
  may_whole e = rw (← k_is, ← is_noted_lem, e)

  module _ (e : noted ≡ false) where
    pub may_not : any (is dot) domain ≡ false → false ≡ may_match table domain
    unfolding may_match
    may_not h = rw (← k_is, ← is_noted_lem, e, h)

    pub may_rest : any (is dot) domain ≡ true → (rest : List ℕ) → rest ≡ after (is dot) domain → (i : ℕ) → i ≡ key_of rest → (r : Bool)
        → r ≡ has table i → r ≡ may_match table domain
    unfolding may_match
    may_rest h rest rest_is i i_is r r_is = rw (← k_is, ← is_noted_lem, e, h) (r_is ∙ ap (has table) (i_is ∙ ap key_of rest_is))

-- ---- the walk over a SAN's entries

-- a table that has what is noted so far, and all that is left from `at` on, has all from `start` on
unfoldable pub NotedLeft : List ℕ → ℕ → ℕ → List ℕ → ℕ → Type 0
NotedLeft s start end table at =
    (t : List ℕ) → Within table t → has_all t (items_in read_name s at end) ≡ true → has_all t (items_in read_name s start end) ≡ true

module _ (s : List ℕ) (start end : ℕ) (table : List ℕ) where
  pub noted_begin : NotedLeft s start end table start
  unfolding NotedLeft
  noted_begin t w e = e

  module _ (at : ℕ) (left : NotedLeft s start end table at) (run : Run read_name s at end) where
    -- no entry is left
    pub noted_end : end ≤ at → has_all table (items_in read_name s start end) ≡ true
    unfolding NotedLeft has_all
    noted_end h =
        let k : at ≡ end = omega (arith, run.order) in
        left table (within_self table) (rw (k, no_items read_name s end))

    module _ (more : at < end) (n : ℕ) (n_is : n ≡ end_of (element_at s at end)) (r : std.Option ℕ) (r_is : r ≡ text_place (tagged_text 0x82) s at n) where
      fits : n ≤ length s
      fits = step_fits read_name s at end run more n n_is

      order : at ≤ n
      order = omega (arith, entry_room s at end run more n n_is)

      -- an entry that a table has, or that is no dNSName, and the entries past it
      passed : (t : List ℕ) → ((x : ℕ) → r ≡ Some x → has t (key_of (noted_text (slice x n s))) ≡ true)
          → has_all t (items_in read_name s n end) ≡ true → has_all t (items_in read_name s at end) ≡ true
      unfolding has_all has_name
      passed t h e = with_entry s at end run more n n_is λ m p i. rw (i, here m p r refl) e
        where
          here : (m : GeneralName) → whole_at s at n ≡ some m → (o : std.Option ℕ) → r ≡ o
              → where_given (tagged_text 0x82 m) (λ text. has t (key_of (noted_text text))) ≡ true
          here m p None f = rw (text_not_there (tagged_text 0x82) s at n r r_is m p f)
          here m p (Some x) f = rw (text_there (tagged_text 0x82) s at n r r_is m p (own_tagged 0x82) order fits x f) (h x f)

      -- the text of a dNSName lies in its entry
      pub noted_within : (x : ℕ) → r ≡ Some x → x ≤ n
      noted_within x f = with_entry s at end run more n n_is λ m p i. text_within (tagged_text 0x82) s at n r r_is m p (own_tagged 0x82) order fits x f

      -- another name
      pub noted_other : r ≡ None → NotedLeft s start end table n
      unfolding NotedLeft
      noted_other h t w e = left t w (passed t (λ x f. never f) e)
        where
          never : {X : Type 0} {x : ℕ} → r ≡ Some x → X
          never {X} {x} f =
              let k : ◌≡◌ {A = std.Option ℕ} None (Some x) = sym h ∙ f in
              let z : ◌≡◌ {A = ℕ} 0 1 = cc in absurd (omega arith)

      -- a dNSName, which is noted
      pub noted_text_lem : (x : ℕ) → r ≡ Some x → (k b : ℕ) → k ≡ key_of (noted_text (take (n - x) (drop x s))) → k / 8 < length table → b ≡ 2 ^ (k % 8)
          → NotedLeft s start end (set table (k / 8) (bit_or (get_or table (k / 8) 0) b)) n
      unfolding NotedLeft
      noted_text_lem x x_is k b k_is room b_is t w e =
          let w' : Within (noted table k room) t = rw b_is at w in
          left t (within_noted table k room t w')
          (passed t
          (λ y f.
          let q : ◌≡◌ {A = std.Option ℕ} (Some x) (Some y) = sym x_is ∙ f in
          let same : x ≡ y = cc in
          let key : k ≡ key_of (noted_text (slice y n s)) =
          k_is ∙ ap (λ l. key_of (noted_text l)) (part_is s x n (noted_within x x_is)) ∙ ap (λ z. key_of (noted_text (slice z n s))) same in
          rw (← key) (has_within (noted table k room) t w' k (has_noted table k room))) e)

-- ---- a whole SAN

module _ (s : List ℕ) (e : Answer) (e_is : e ≡ element_at s 0 (length s)) where
  -- no element, no entries
  pub note_none : (table : List ℕ) (why : ElementError) → e ≡ Err why → has_all table (names_of read_san s) ≡ true
  unfolding has_all names_of read_san
  note_none table why q = rw (nothing_read s e e_is _ (ap found? q))

  module _ (valid : validated read_san s ≡ true) (x : Element) (found : e ≡ Ok x) where
    content : Filled read_name s (names_of read_san s) x.start
    content = rw (start_found s e e_is x found) (san_filled s valid)

    pub note_run : Run read_name s x.start (length s)
    note_run = content.elements

    pub note_all : (table : List ℕ) → has_all table (items_in read_name s x.start (length s)) ≡ true → has_all table (names_of read_san s) ≡ true
    note_all table h = rw content.list at h

pub ruleset laws = (
  keys.byte_is,
  keys.word_is,
  keys.sum_none,
  keys.sum_few,
  keys.sum_two,
  keys.sum_three,
  keys.key_is,
  keys.wild_long,
  keys.noted_wild,
  keys.noted_plain,
  bit_is,
  has_is,
  may_whole,
  may_not,
  may_rest,
)

-- of the walk over a SAN's entries
pub ruleset walk = (noted_begin, noted_end, noted_within, noted_other, noted_text_lem)

-- of a whole SAN
pub ruleset whole = (note_none, note_run, note_all)
