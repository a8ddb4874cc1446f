-- What the record reader finds at an index.
use Rattle.std.specs.Prelude.{ℕ, ◌≡◌, List, length, get_or, Result, Option, MatchResult, MatchOption}
use Rattle.std.specs.Borrow.{Bor}
use Rattle.rules.specs.Numbers.{accepted, answer_of, record_size, service_length_at, domain_length_at}
use Rattle.rules.specs.Records.{shown, no_record}
use Rattle.rules.specs.declared.Refusal.{Refusal}
use Rattle.rules.specs.declared.Shown.{Shown}

-- what is shown of a record
abbrev pub showing : List ℕ → Shown
showing b = record { answer = accepted; kind = get_or b 0 0; service = get_or b service_length_at 0; domain = get_or b domain_length_at 0 }

-- a record that is shown, or none past the last, or why none is
abbrev pub ReadsAt : List ℕ → ℕ → Result (Option (Bor (List ℕ))) Refusal → Type 0
ReadsAt b i r =
    MatchResult r
    (λ o. MatchOption o (shown b i ≡ no_record accepted) (λ x. (length x.now ≡ record_size) × (shown b i ≡ showing x.now)))
    (λ e. shown b i ≡ no_record (answer_of e))
