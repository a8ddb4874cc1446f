-- What is seen of a certificate string, as a function of its bytes: the relation `Sees` of the rules holds of it, and of
-- nothing else. Proved once, and used at the three strings.
use Rattle.std.specs.Prelude.{ℕ, ◌≡◌, Bool, not, ◌&&◌, length, T}
use Rattle.std.proofs.Math.Path.{refl, ap}
use Rattle.std.proofs.Common.{sym, ◌∙◌, arith}
use Rattle.std.proofs.Math.Logic.{inl, inr}
use Rattle.std.proofs.Math.Bool.{true, false, cond}
use Rattle.std.proofs.Math.Option.{Option, none, some}
use mathlib.Core.List.{List, [], ◌∷◌}
use Rattle.std.proofs.Math.Dec.{ltb}
use borrow.Author.Tests.{ltb-true, ltb-false}
use Rattle.rules.specs.Bytes.{some?}
use Rattle.rules.specs.Der.{Member}
use Rattle.rules.specs.San.{GeneralName}
use Rattle.rules.specs.Subject.{Attribute}
use Rattle.rules.specs.Seen.{Seen, too_long, unreadable, listed, Input, san_input, subject_input, constraints_input, Reads, Sees}
use Rattle.reading.specs.Strings.{read_san, read_subject, read_constraints}
use Rattle.reading.specs.Answers.{no_some}
use Rattle.reading.specs.OneReading.{ReadsExactly}
use Rattle.reading.proofs.OneReading.{san_reading, subject_reading, constraints_reading}
use Rattle.reading.specs.Views.{absent, listed_or, seen_of, seen_san, seen_subject, seen_constraints}

module _ {Name : Type 0} (I : Input Name) (read : List ℕ → Option (List Name)) (R : ReadsExactly I.grammar read) where
  -- an absent string is its empty list, and no list is written so
  no_bytes : (b : List ℕ) → absent I b ≡ true → T I.optional × (b ≡ [])
  no_bytes b e = go I.optional b e
    where
      go : (t : Bool) (b : List ℕ) → (t && not (some? b)) ≡ true → T t × (b ≡ [])
      go true [] e = (tt, refl)
      go true (x ∷ b) e = let z : ◌≡◌ {A = ℕ} 0 1 = cc in absurd (omega arith)
      go false b e = let z : ◌≡◌ {A = ℕ} 0 1 = cc in absurd (omega arith)

  some_bytes : (b : List ℕ) → absent I b ≡ false → T I.optional → b ≡ [] → ⊥
  some_bytes b e t q = go I.optional b e t q
    where
      go : (t : Bool) (b : List ℕ) → (t && not (some? b)) ≡ false → T t → b ≡ [] → ⊥
      go true [] e h q = let z : ◌≡◌ {A = ℕ} 0 1 = cc in omega arith
      go true (x ∷ b) e h q = let z : ◌≡◌ {A = ℕ} 0 1 = cc in omega arith
      go false b e h q = h

  -- what is seen of every string
  pub sees : (b : List ℕ) → Sees I b (seen_of I read b)
  unfolding seen_of
  sees b = go (ltb I.limit (length b)) (absent I b) (read b) refl refl refl
    where
      go : (t a : Bool) (o : Option (List Name)) → ltb I.limit (length b) ≡ t → absent I b ≡ a → read b ≡ o
          → Sees I b (cond t too_long (cond a (listed []) (listed_or o)))
      go true a o e f g = ltb-true _ _ e
      go false true o e f g = (ltb-false _ _ e, inr ((no_bytes b f).0, (no_bytes b f).1, refl))
      go false false (some l) e f g = (ltb-false _ _ e, inl ((R.exactly b l).0 g))
      go false false none e f g = (ltb-false _ _ e, refuse)
        where
          refuse : (l : List Name) → Reads I b l → ⊥
          refuse l (inl w) = no_some (sym g ∙ (R.exactly b l).1 w)
          refuse l (inr w) = some_bytes b f w.0 w.1

  -- and nothing else is seen of it
  pub sees_only : (b : List ℕ) (x : Seen Name) → Sees I b x → x ≡ seen_of I read b
  unfolding seen_of
  sees_only b x s = go (ltb I.limit (length b)) (absent I b) (read b) refl refl refl x s
    where
      go : (t a : Bool) (o : Option (List Name)) → ltb I.limit (length b) ≡ t → absent I b ≡ a → read b ≡ o
          → (x : Seen Name) → Sees I b x → x ≡ cond t too_long (cond a (listed []) (listed_or o))
      go true a o e f g too_long s = refl
      go true a o e f g unreadable s = absurd (omega (arith, ltb-true))
      go true a o e f g (listed l) s = absurd (omega (arith, ltb-true))
      go false a o e f g too_long s = absurd (omega (arith, ltb-false))
      go false true o e f g unreadable s = absurd (s.1 [] (inr ((no_bytes b f).0, (no_bytes b f).1, refl)))
      go false true o e f g (listed l) s = only s.1
        where
          only : Reads I b l → listed l ≡ listed []
          only (inl w) = absurd (R.present l (rw (no_bytes b f).1 at w))
          only (inr w) = ap listed w.2
      go false false (some l) e f g unreadable s = absurd (s.1 l (inl ((R.exactly b l).0 g)))
      go false false none e f g unreadable s = refl
      go false false o e f g (listed l) s = only s.1
        where
          only : Reads I b l → listed l ≡ listed_or o
          only (inl w) = rw (← g, (R.exactly b l).1 w)
          only (inr w) = absurd (some_bytes b f w.0 w.1)

-- ---- the three strings

pub sees_san : (b : List ℕ) → Sees san_input b (seen_san b)
unfolding seen_san
sees_san = sees san_input read_san san_reading

pub sees_subject : (b : List ℕ) → Sees subject_input b (seen_subject b)
unfolding seen_subject
sees_subject = sees subject_input read_subject subject_reading

pub sees_constraints : (b : List ℕ) → Sees constraints_input b (seen_constraints b)
unfolding seen_constraints
sees_constraints = sees constraints_input read_constraints constraints_reading

pub san_seen : (b : List ℕ) (x : Seen GeneralName) → Sees san_input b x → x ≡ seen_san b
unfolding seen_san
san_seen = sees_only san_input read_san san_reading

pub subject_seen : (b : List ℕ) (x : Seen (Member Attribute)) → Sees subject_input b x → x ≡ seen_subject b
unfolding seen_subject
subject_seen = sees_only subject_input read_subject subject_reading

pub constraints_seen : (b : List ℕ) (x : Seen (Member GeneralName)) → Sees constraints_input b x → x ≡ seen_constraints b
unfolding seen_constraints
constraints_seen = sees_only constraints_input read_constraints constraints_reading
