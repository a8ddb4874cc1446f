-- How many names are read, and how a loop counts them.
use Rattle.std.specs.Prelude.{ℕ, ◌+◌, List, [], ◌∷◌, Bool, true, cond, ◌&&◌, eqb, leb, length}
use Rattle.std.proofs.Math.Option.{Option, none, some}
use Rattle.std.proofs.Math.Seq.{slice}
use Rattle.rules.specs.Bytes.{some?, chain, up_to}
use Rattle.rules.specs.Der.{Group}
use Rattle.rules.specs.Subject.{write_attribute}
use Rattle.reading.specs.Reader.{also, items}
use Rattle.reading.specs.Strings.{read_name, read_attribute, in_order, read_set, read_subtree, read_side, rising}
use Rattle.std.specs.Prelude.{Result, Ok, Err}
use Rattle.der.specs.Places.{Answer, tagged_at}
use Rattle.entries.specs.declared.Unreadable.{Unreadable}

-- how many names are read, where what they stand in is readable
abbrev pub Count : Type 0
Count = Result ℕ Unreadable

abbrev pub unreadable : Count
unreadable = Err (record {})

-- the number of names of a list that is read
unfoldable pub place_count : {A : Type 0} → Option (List A) → Count
place_count none = unreadable
place_count (some l) = Ok (length l)

-- the number of names in groups that are read
unfoldable pub total : {A : Type 0} → (A → ℕ) → List A → ℕ
total size [] = 0
total size (a ∷ l) = size a + total size l

unfoldable pub place_total : {A : Type 0} → (A → ℕ) → Option (List A) → Count
place_total size none = unreadable
place_total size (some l) = Ok (total size l)

-- where the content starts of the one element, tagged 30, that fills a string
unfoldable pub filled : ℕ → Answer → Result ℕ Unreadable
filled end (Ok e) = cond (eqb e.next end) (Ok e.start) unreadable
filled end (Err why) = unreadable

unfoldable pub content_at : List ℕ → Result ℕ Unreadable
content_at s = filled (length s) (tagged_at s 0 (length s) 0x30)

-- ---- what is counted from one place to another

unfoldable pub names_at : List ℕ → ℕ → ℕ → Count
names_at s from end = place_count (items read_name (slice from end s))

-- the bytes from i to p are no later than those from j to q
unfoldable pub order_at : List ℕ → ℕ → ℕ → ℕ → ℕ → Bool
order_at s i p j q = up_to (slice i p s) (slice j q s)

unfoldable pub set_at : List ℕ → ℕ → ℕ → Count
set_at s from end = place_count (also in_order (items read_attribute) (slice from end s))

unfoldable pub sets_at : List ℕ → ℕ → ℕ → Count
sets_at s from end = place_total length (items read_set (slice from end s))

unfoldable pub side_at : List ℕ → ℕ → ℕ → Count
side_at s from end = place_count (items read_subtree (slice from end s))

abbrev pub members_of : {A : Type 0} → Group A → ℕ
members_of g = length g.members

unfoldable pub sides_at : List ℕ → ℕ → ℕ → Count
sides_at s from end = place_total members_of (also (λ l. some? l && chain rising l) (items read_side) (slice from end s))

-- ---- a loop over a run: k names are counted, p is what the last item leaves for the next to fit

module _ {A P : Type 0} (size : A → ℕ) (fits : P → A → Bool) (after : A → P) where
  unfoldable pub tally : P → ℕ → List A → Count
  tally p k [] = Ok k
  tally p k (a ∷ l) = cond (fits p a) (tally (after a) (k + size a) l) unreadable

  unfoldable pub run_on : P → ℕ → Option (List A) → Count
  run_on p k none = unreadable
  run_on p k (some l) = tally p k l

-- any item may follow
abbrev pub any_fits : {A : Type 0} → ℕ → A → Bool
any_fits p a = true

abbrev pub nothing : {A : Type 0} → A → ℕ
nothing a = 0

unfoldable pub names_on : List ℕ → ℕ → ℕ → ℕ → Count
names_on s k at end = run_on (λ n. 1) any_fits nothing 0 k (items read_name (slice at end s))

-- the attribute before stands from `last` to `at`; at the first these are no bytes
unfoldable pub set_on : List ℕ → ℕ → ℕ → ℕ → ℕ → Count
set_on s last k at end =
    run_on (λ a. 1) (λ p a. up_to p (write_attribute a)) write_attribute (slice last at s) k (items read_attribute (slice at end s))

unfoldable pub sets_on : List ℕ → ℕ → ℕ → ℕ → Count
sets_on s k at end = run_on length any_fits nothing 0 k (items read_set (slice at end s))

unfoldable pub side_on : List ℕ → ℕ → ℕ → ℕ → Count
side_on s k at end = run_on (λ n. 1) any_fits nothing 0 k (items read_subtree (slice at end s))

-- the next side has the tag `low` or a greater one
unfoldable pub sides_on : List ℕ → ℕ → ℕ → ℕ → ℕ → Count
sides_on s low k at end =
    run_on members_of (λ l g. leb l (0xA0 + g.number)) (λ g. 0xA0 + g.number + 1) low k (items read_side (slice at end s))
