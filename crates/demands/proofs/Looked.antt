-- What is seen of each string, beside the condition on its bytes.
use Prim.Native.Nat.{ℕ, ◌≤◌, ◌<◌}
use mathlib.Core.Path.{◌≡◌, sym}
use mathlib.Core.Logic.{◌⊎◌, inl, inr}
use mathlib.Core.Bool.{true, false}
use mathlib.Core.List.{List}
use native.Mathlib.Omega.{arith}
use lib.ListN.{length}
use borrow.Author.Tests.{lt-ltb, le-ltb}
use Rattle.rules.specs.Numbers.{records_limit}
use Rattle.rules.specs.Records.{good_records, references_of}
use Rattle.rules.specs.Seen.{Seen, too_long, unreadable, listed, Input, san_input, subject_input, constraints_input, Reads, Sees, seen_records}
use Rattle.rules.specs.Verdict.{is_long, is_unreadable}
use Rattle.reading.specs.Views.{seen_san, seen_subject, seen_constraints}
use Rattle.reading.proofs.Views.{sees_san, sees_subject, sees_constraints, san_seen, subject_seen, constraints_seen}
use Rattle.demands.specs.Statements.{Unreadable}

-- what a function sees of each string is what the grammar says, and nothing else is
pub record Faithful {Name : Type 0} (I : Input Name) (seen : List ℕ → Seen Name) : Type 0 where
  pub sees : (b : List ℕ) → Sees I b (seen b)
  pub only : (b : List ℕ) (x : Seen Name) → Sees I b x → x ≡ seen b

-- the three strings
pub san_faithful : Faithful san_input seen_san
san_faithful = record { sees = sees_san; only = san_seen }

pub subject_faithful : Faithful subject_input seen_subject
subject_faithful = record { sees = sees_subject; only = subject_seen }

pub constraints_faithful : Faithful constraints_input seen_constraints
constraints_faithful = record { sees = sees_constraints; only = constraints_seen }

-- one thing seen is one list
pub same_list : {Name : Type 0} {x : Seen Name} {l m : List Name} → x ≡ listed l → x ≡ listed m → l ≡ m
same_list e f = cc

module _ {Name : Type 0} {I : Input Name} {seen : List ℕ → Seen Name} (S : Faithful I seen) (b : List ℕ) where
  -- what is seen, from the condition on the bytes
  pub seen_long : I.limit < length b → seen b ≡ too_long
  seen_long h = sym (S.only b too_long h)

  pub seen_bad : length b ≤ I.limit → Unreadable I b → seen b ≡ unreadable
  seen_bad fits h = sym (S.only b unreadable (fits, h))

  pub seen_listed : (l : List Name) → Sees I b (listed l) → seen b ≡ listed l
  seen_listed l h = sym (S.only b (listed l) h)

  -- a string has one list
  pub one_list : (l m : List Name) → Sees I b (listed l) → Sees I b (listed m) → l ≡ m
  one_list l m h k = same_list (seen_listed l h) (seen_listed m k)

  -- a string within its limit is unreadable, or has a list
  pub read_or_not : length b ≤ I.limit → Unreadable I b ⊎ ((l : List Name) × Reads I b l)
  read_or_not fits = go (seen b) (S.sees b)
    where
      go : (x : Seen Name) → Sees I b x → Unreadable I b ⊎ ((l : List Name) × Reads I b l)
      go too_long s = absurd (omega arith)
      go unreadable s = inl s.1
      go (listed l) s = inr (l, s.1)

  -- and is not seen as too long
  pub seen_fits : length b ≤ I.limit → is_long (seen b) ≡ false
  seen_fits fits = go (read_or_not fits)
    where
      go : Unreadable I b ⊎ ((l : List Name) × Reads I b l) → is_long (seen b) ≡ false
      go (inl h) = rw (seen_bad fits h)
      go (inr h) = rw (seen_listed h.0 (fits, h.1))

  -- the tests of a verdict, from what is read
  pub unread : length b ≤ I.limit → Unreadable I b → is_unreadable (seen b) ≡ true
  unread fits h = rw (seen_bad fits h)

  pub not_unread : length b ≤ I.limit → (l : List Name) × Reads I b l → is_unreadable (seen b) ≡ false
  not_unread fits h = rw (seen_listed h.0 (fits, h.1))

-- ---- our records

module _ (b : List ℕ) where
  pub records_long : records_limit < length b → seen_records b ≡ too_long
  unfolding seen_records
  records_long h = simp (lt-ltb _ _ h)

  pub records_bad : length b ≤ records_limit → good_records b ≡ false → seen_records b ≡ unreadable
  unfolding seen_records
  records_bad fits e = simp (le-ltb _ _ fits, e)

  pub records_good : length b ≤ records_limit → good_records b ≡ true → seen_records b ≡ listed (references_of b)
  unfolding seen_records
  records_good fits e = simp (le-ltb _ _ fits, e)
