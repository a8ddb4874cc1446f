-- Answers taken apart: what an Option, a front or a test that went through says of its parts.
-- The parts go to a continuation, so that rewriting never meets a pair.
use Rattle.std.specs.Prelude.{ℕ, ◌≡◌, refl, Bool, true, false, ◌&&◌, List, [], ◌∷◌, T}
use Rattle.std.proofs.Math.Option.{Option, none, some}
use Rattle.std.proofs.Common.{arith}
use Rattle.rules.specs.Bytes.{all}
pub use Rattle.rules.proofs.Cases.{and_parts, is_true}
use Rattle.reading.specs.Reader.{then, when, is_some, Refusal, Front, got, refused, shortest, enough, then_f, at_end}

-- ---- options and fronts

pub no_some : {A : Type 0} {a : A} → Path (Option A) none (some a) → ⊥
no_some e =
    let z : ◌≡◌ {A = ℕ} 0 1 = cc in
    omega arith

pub some_of : {A X : Type 0} (o : Option A) → is_some o ≡ true → ((a : A) → o ≡ some a → X) → X
some_of none e k = let z : ◌≡◌ {A = ℕ} 0 1 = cc in absurd (omega arith)
some_of (some a) e k = k a refl

pub then_some : {A B X : Type 0} (o : Option A) (f : A → Option B) {b : B} → then o f ≡ some b → ((a : A) → o ≡ some a → f a ≡ some b → X) → X
then_some none f e k = absurd (no_some e)
then_some (some a) f e k = k a refl e

pub when_some : {A X : Type 0} (t : Bool) (o : Option A) {a : A} → when t o ≡ some a → (T t → o ≡ some a → X) → X
when_some true o e k = k tt e
when_some false o e k = absurd (no_some e)

pub then_f_some : {A B X : Type 0} (o : Front A) (f : A → List ℕ → Option B) {b : B} → then_f o f ≡ some b → ((a : A) (r : List ℕ) → o ≡ got a r → f a r ≡ some b → X) → X
then_f_some (refused w) f e k = absurd (no_some e)
then_f_some (got a r) f e k = k a r refl e

pub at_end_some : {A X : Type 0} (r : List ℕ) (o : Option A) {a : A} → at_end r o ≡ some a → (r ≡ [] → o ≡ some a → X) → X
at_end_some [] o e k = k refl e
at_end_some (x ∷ r) o e k = absurd (no_some e)

pub no_got : {A : Type 0} {a : A} {r : List ℕ} {w : Refusal} → Path (Front A) (refused w) (got a r) → ⊥
no_got e =
    let z : ◌≡◌ {A = ℕ} 0 1 = cc in
    omega arith

pub shortest_got : {A : Type 0} (t : Bool) (o : Front A) {a : A} {r : List ℕ} → shortest t o ≡ got a r → T t × (o ≡ got a r)
shortest_got true o e = (tt, e)
shortest_got false o e = absurd (no_got e)

pub enough_got : {A : Type 0} (t : Bool) (o : Front A) {a : A} {r : List ℕ} → enough t o ≡ got a r → T t × (o ≡ got a r)
enough_got true o e = (tt, e)
enough_got false o e = absurd (no_got e)

-- ---- tests

pub both : (s t : Bool) → T s → T t → T (s && t)
both true true g h = tt
both true false g h = h
both false t g h = g

-- a weaker test of each
pub all_weaken : {A : Type 0} (p q : A → Bool) → ((a : A) → T (p a) → T (q a)) → (l : List A) → T (all p l) → T (all q l)
all_weaken p q f [] h = tt
all_weaken p q f (a ∷ l) h =
    let t = and_parts (p a) (all p l) h in
    both (q a) (all q l) (f a t.0) (all_weaken p q f l t.1)

-- two tests of each
pub all_both : {A : Type 0} (p q : A → Bool) (l : List A) → T (all p l) → T (all q l) → T (all (λ a. p a && q a) l)
all_both p q [] g h = tt
all_both p q (a ∷ l) g h =
    let s = and_parts (p a) (all p l) g in
    let t = and_parts (q a) (all q l) h in
    both (p a && q a) _ (both (p a) (q a) s.0 t.0) (all_both p q l s.1 t.1)
