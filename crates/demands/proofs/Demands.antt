-- The three demands, proved.
use Prim.Native.Nat.{ℕ}
use mathlib.Core.Path.{◌≡◌}
use mathlib.Core.Logic.{inl, inr}
use mathlib.Core.List.{List}
use Rattle.rules.specs.Der.{Member}
use Rattle.rules.specs.San.{GeneralName}
use Rattle.rules.specs.Subject.{Attribute}
use Rattle.rules.specs.Seen.{Seen, san_input, subject_input, Sees, together, seen_records}
use Rattle.rules.specs.Verdict.{outcome_of}
use Rattle.reading.specs.Views.{seen_san, seen_subject}
use Rattle.reading.proofs.Views.{san_seen, subject_seen}
use Rattle.reading.specs.Calls.{Inputs, seen_issuers, outcome_on}
use Rattle.demands.specs.Statements.{Strings, SeesEach, Demand1, Demand2, Demand3}
use Rattle.demands.proofs.Strings.{issuers_seen}
use Rattle.demands.proofs.Endings.{long_seen}
use Rattle.demands.proofs.Verdicts.{verdicts, match_exactly, any_broken}
use Rattle.demands.proofs.Records.{records}
use Rattle.demands.proofs.Listings.{listings, readings}
use Rattle.demands.proofs.Witness.{first_pair_lem, no_witness}
use Rattle.demands.proofs.Presented.{kinds, entry_index, set_index}
use Rattle.demands.proofs.Breaking.{breaks_string}
use Rattle.demands.proofs.KeptOut.{kept_out}

pub demand1 : Demand1
demand1 = record { verdict = verdicts; records = records; listing = listings }

pub demand2 : Demand2
demand2 = record {
  first = first_pair_lem;
  no_witness = no_witness;
  kinds = kinds;
  entry_index = entry_index;
  set_index = set_index;
  breaks = breaks_string;
  kept_out = kept_out;
  match = match_exactly;
  broken = any_broken;
}

-- what is seen decides the outcome, for nothing else is seen of a string
outcome_of_seen :
    (s : Inputs) (strings : List (List ℕ)) (san : Seen GeneralName) (subject : Seen (Member Attribute))
    (constraints : List (Seen (Member GeneralName)))
    → Strings s strings → Sees san_input s.san san → Sees subject_input s.subject subject → SeesEach strings constraints
    → outcome_on s ≡ outcome_of (seen_records s.references) san subject (together constraints)
unfolding outcome_on
outcome_of_seen s strings san subject constraints h a b c =
    let p : san ≡ seen_san s.san = san_seen s.san san a in
    let q : subject ≡ seen_subject s.subject = subject_seen s.subject subject b in
    let r : seen_issuers s.lengths s.constraints ≡ together constraints = issuers_seen s strings constraints h c in
    cc

pub demand3 : Demand3
demand3 = record { reading = readings; verdict = outcome_of_seen; no_strings = λ s n. long_seen s (inr (inr (inr (inl n)))) }
