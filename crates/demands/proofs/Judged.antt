-- Where all strings are read: a name breaks an issuer's constraints, or a first pair matches, or none does.
use Prim.Native.Nat.{ℕ, ◌+◌, ◌≤◌, ◌<◌}
use mathlib.Core.Path.{◌≡◌, ap, ◌∙◌}
use mathlib.Core.Logic.{◌⊎◌}
use native.Mathlib.Omega.{arith}
use Rattle.rules.specs.Matching.{Pair, first_pair, first_breach}
use Rattle.rules.specs.Verdict.{matched_or, broken_or, witness_of, judged}
use Rattle.rules.specs.declared.Outcome.{Outcome}
use Rattle.rules.specs.declared.Outcome.TheVariants.{Broken, Matched, Mismatched}
use Rattle.demands.specs.Statements.{Names, MatchesAt, BreaksAt, PairAt, First}
use Rattle.demands.proofs.FirstPair.{PlaceAt, Finds, found, missing, EntryBreaks, breach, breaches, pair, pairs}

-- a pair as the rules give it
abbrev pub pair_of : {l : Names} {i j : ℕ} → PairAt l i j → Pair
pair_of {i} pair = record { index = i; reference = pair.reference; presented = pair.match.presented }

-- "lowest issuer first, then lowest name"
abbrev pub FirstBroken : Names → ℕ → ℕ → Type 0
FirstBroken l k i = (k' i' : ℕ) → BreaksAt l k' i' → (k < k') ⊎ ((k ≡ k') × (i ≤ i'))

-- how names are judged, and the outcome
pub data Judged (l : Names) (o : Outcome) : Type 0 where
  broken : (k i : ℕ) → BreaksAt l k i → FirstBroken l k i → o ≡ Broken (record { issuer = k; presented = i }) → Judged l o
  matched :
      ((k i : ℕ) → ¬ BreaksAt l k i) → (i j : ℕ) (pair : PairAt l i j) → First l i j
      → o ≡ Matched (witness_of (pair_of pair)) → Judged l o
  mismatched : ((k i : ℕ) → ¬ BreaksAt l k i) → ((i j : ℕ) → ¬ PairAt l i j) → o ≡ Mismatched → Judged l o

module _ (l : Names) where
  -- a breach, and a pair, as a place in a list and in what its element has
  breaking : (k i : ℕ) → PlaceAt (EntryBreaks l.san) l.constraints k i → BreaksAt l k i
  breaking k i p = record { string = p.element; string_at_lem = p.at; entry = p.has.element; entry_at = p.has.at; broken = p.has.has }

  broken_there : (k i : ℕ) → BreaksAt l k i → PlaceAt (EntryBreaks l.san) l.constraints k i
  broken_there k i b = record { element = b.string; at = b.string_at_lem; has = record { element = b.entry; at = b.entry_at; has = b.broken } }

  pairing : (i j : ℕ) → PlaceAt (MatchesAt l) l.references i j → PairAt l i j
  pairing i j p = record { reference = p.element; reference_at_lem = p.at; match = p.has }

  paired_there : (i j : ℕ) → PairAt l i j → PlaceAt (MatchesAt l) l.references i j
  paired_there i j q = record { element = q.reference; at = q.reference_at_lem; has = q.match }

  -- the constraints come first, then the first pair
  pub judge : Judged l (judged l.references l.san l.subject l.constraints)
  unfolding judged pairing
  judge = go (breaches l.san l.constraints) (pairs l l.references)
    where
      go : Finds (EntryBreaks l.san) (breach l.san) (λ k c. first_breach k c l.san) 0 l.constraints
          → Finds (MatchesAt l) (pair l) (λ i rs. first_pair i rs l.san l.subject) 0 l.references
          → Judged l (judged l.references l.san l.subject l.constraints)
      go (found k i p f e) q =
          let z : 0 + k ≡ k = omega arith in
          broken k i (breaking k i p) (λ k' i' b. f k' i' (broken_there k' i' b))
          (ap (λ b. broken_or b (matched_or (first_pair 0 l.references l.san l.subject))) e ∙ ap (λ n. Broken (record { issuer = n; presented = i })) z)
      go (missing n e) (found i j p f q) =
          let z : 0 + i ≡ i = omega arith in
          matched (λ k i b. n k i (broken_there k i b)) i j (pairing i j p) (λ i' j' b. f i' j' (paired_there i' j' b))
          ((λ x. broken_or (e x) (matched_or (q x))) ∙ ap (λ n. Matched (witness_of (pair l n p.element j p.has))) z)
      go (missing n e) (missing m q) =
          mismatched (λ k i b. n k i (broken_there k i b)) (λ i j p. m i j (paired_there i j p)) (λ x. broken_or (e x) (matched_or (q x)))
