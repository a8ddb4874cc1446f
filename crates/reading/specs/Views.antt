-- What is seen of a certificate string, as a function of its bytes. proofs/Views.antt proves that the relation `Sees` of the rules holds
-- of it, and of nothing else.
use Rattle.std.specs.Prelude.{ℕ, Bool, not, ◌&&◌, cond, List, [], length, ltb}
use Rattle.std.proofs.Math.Option.{Option, none, some}
use Rattle.rules.specs.Bytes.{some?}
use Rattle.rules.specs.Der.{Member}
use Rattle.rules.specs.San.{GeneralName}
use Rattle.rules.specs.Subject.{Attribute}
use Rattle.rules.specs.Seen.{Seen, too_long, unreadable, listed, Input, san_input, subject_input, constraints_input}
use Rattle.reading.specs.Strings.{read_san, read_subject, read_constraints}

-- a string that may be absent, and is
abbrev pub absent : {Name : Type 0} → Input Name → List ℕ → Bool
absent I b = I.optional && not (some? b)

abbrev pub listed_or : {Name : Type 0} → Option (List Name) → Seen Name
listed_or none = unreadable
listed_or (some l) = listed l

-- what a reader sees: too long; else absent, with the empty list; else what it reads
unfoldable pub seen_of : {Name : Type 0} → Input Name → (List ℕ → Option (List Name)) → List ℕ → Seen Name
seen_of I read b = cond (ltb I.limit (length b)) too_long (cond (absent I b) (listed []) (listed_or (read b)))

-- ---- the three strings

unfoldable pub seen_san : List ℕ → Seen GeneralName
seen_san = seen_of san_input read_san

unfoldable pub seen_subject : List ℕ → Seen (Member Attribute)
seen_subject = seen_of subject_input read_subject

unfoldable pub seen_constraints : List ℕ → Seen (Member GeneralName)
seen_constraints = seen_of constraints_input read_constraints
