-- One step of a loop over a run of elements, by where the element ends and where its content starts.
use Prim.Native.Nat.{ℕ, ◌+◌, ◌-◌, ◌≤◌, ◌<◌}
use mathlib.Core.Path.{◌≡◌, refl, sym, ap, ◌∙◌}
use mathlib.Core.Bool.{true, false, true≢false}
use mathlib.Core.Option.{Option, some}
use mathlib.Core.List.{List, [], ◌∷◌, append-nil}
use native.Mathlib.Omega.{arith}
use lib.ListN.{length}
use lib.Seq.{slice}
use lib.Dec.{eqb}
use Rattle.rules.specs.Constraints.{good_restriction}
use Rattle.rules.specs.San.{GeneralName}
use Rattle.reading.specs.Reader.{is_some, Raw, raw, read_element, alone}
use Rattle.reading.specs.Strings.{read_name, read_subtree}
use Rattle.reading.specs.Answers.{then_some, when_some, then_f_some, at_end_some}
use Rattle.reading.proofs.Element.{element_complete}
use Rattle.std.specs.Prelude.{Ok, Err}
use Rattle.der.specs.Places.{Answer, found, element_at, found?}
use Rattle.der.specs.Reads.{whole_element}
use Rattle.der.specs.Runs.{Run, First, first, run_found, start_of, end_of, items_in}
use Rattle.der.proofs.Elements.{found_room}
use Rattle.entries.specs.Entries.{whole_at}
use Rattle.entries.proofs.Whole.{whole_room}

module _ {A : Type 0} (f : Raw → Option A) (s : List ℕ) (at end : ℕ) (run : Run f s at end) (more : at < end) where
  -- an element is there
  pub step_found : found? (element_at s at end) ≡ true
  step_found = run_found f s at end run more

  pub step_room : at + 2 ≤ end
  step_room = found_room s at end run.order run.fits step_found

  module _ (n : ℕ) (n_is : n ≡ end_of (element_at s at end)) where
    -- it is the first of the run
    with_one : {X : Type 0} → ((t b : ℕ) → element_at s at end ≡ found t b n → First f s at end t b n → X) → X
    unfolding end_of
    with_one {X} k = go (element_at s at end) refl
      where
        none_there : found? (element_at s at end) ≡ false → X
        none_there q = absurd (true≢false (sym step_found ∙ q))

        go : (e : Answer) → element_at s at end ≡ e → X
        go (Ok x) q =
            let n_m : n ≡ x.next = n_is ∙ ap end_of q in
            let there : element_at s at end ≡ found x.tag x.start n = q ∙ ap (found x.tag x.start) (sym n_m) in
            k x.tag x.start there (first f s at end run more (element_at s at end) refl (record { tag = x.tag; start = x.start; next = n }) there)
        go (Err why) q = none_there (rw q)

    pub step_end : n ≤ end
    step_end = with_one λ t b q w. w.read.rest

    pub step_fits : n ≤ length s
    step_fits = omega (arith, step_end, run.fits)

    -- what follows is a run again, and shorter
    pub step_rest : Run f s n end
    step_rest = with_one λ t b q w. w.others

    pub step_less : end - n < end - at
    step_less = with_one λ t b q w. omega (arith, w.read.head, w.read.body, w.read.rest)

    -- the elements that are passed are no more than the bytes that are passed
    pub step_counts : (i : ℕ) → i ≤ at → i + 1 ≤ n
    step_counts i h = with_one λ t b q w. omega (arith, w.read.head, w.read.body)

pub ruleset steps = (step_found, step_room, step_end, step_fits, step_rest, step_less, step_counts)

-- ---- the name that an element of a run holds

-- an entry of a SAN fills its element
module _ (s : List ℕ) (at end : ℕ) (run : Run read_name s at end) (more : at < end) (n : ℕ) (n_is : n ≡ end_of (element_at s at end)) where
  pub with_entry : {X : Type 0} → ((m : GeneralName) → whole_at s at n ≡ some m → items_in read_name s at end ≡ m ∷ items_in read_name s n end → X) → X
  unfolding whole_at
  with_entry k =
      with_one read_name s at end run more n n_is λ t b q w.
      k w.item
      (rw (whole_element s at end t b n run.fits w.read ∙ sym (append-nil _), element_complete (raw t (slice b n s)) []) w.item_is)
      w.list

  pub entry_whole : is_some (whole_at s at n) ≡ true
  entry_whole = with_entry λ m p q. rw p

  pub entry_room : at + 2 ≤ n
  entry_room =
      whole_room s at n (with_one read_name s at end run more n n_is λ t b q w. omega (arith, w.read.head, w.read.body))
      (step_fits read_name s at end run more n n_is) entry_whole

-- the GeneralName of a subtree fills its element's content
subtree_name : (t : ℕ) (c : List ℕ) (m : GeneralName) → read_subtree (raw t c) ≡ some m → alone read_name c ≡ some m
unfolding read_subtree
subtree_name t c m e =
    when_some (eqb t 0x30) _ e λ v w.
    then_f_some (read_element c) _ w λ y r p q.
    at_end_some r _ q λ z u.
    then_some (read_name y) _ u λ n i j.
    when_some (good_restriction n) (some n) j λ k o.
    rw (p, z) (i ∙ o)

module _ (s : List ℕ) (at end : ℕ) (run : Run read_subtree s at end) (more : at < end) (n : ℕ) (n_is : n ≡ end_of (element_at s at end))
    (b : ℕ) (b_is : b ≡ start_of (element_at s at end)) where
  pub with_subtree : {X : Type 0}
      → ((m : GeneralName) → b ≤ n → whole_at s b n ≡ some m → items_in read_subtree s at end ≡ m ∷ items_in read_subtree s n end → X) → X
  unfolding whole_at start_of
  with_subtree k =
      with_one read_subtree s at end run more n n_is λ t c q w.
      let b_c : b ≡ c = b_is ∙ ap start_of q in
      k w.item (omega (arith, w.read.body)) (rw b_c (subtree_name t (slice c n s) w.item w.item_is)) w.list

  pub subtree_whole : is_some (whole_at s b n) ≡ true
  subtree_whole = with_subtree λ m h p q. rw p

  pub subtree_order : b ≤ n
  subtree_order = with_subtree λ m h p q. h

  pub subtree_room : b + 2 ≤ n
  subtree_room = whole_room s b n subtree_order (step_fits read_subtree s at end run more n n_is) subtree_whole

pub ruleset names = (entry_whole, entry_room, subtree_whole, subtree_room)
