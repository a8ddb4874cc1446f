-- The texts of names: which names have a text of a form, and a test of it.
use Prim.Native.Nat.{ℕ}
use mathlib.Core.Path.{◌≡◌, refl, ap, ◌∙◌}
use mathlib.Core.Logic.{◌↔◌}
use mathlib.Core.Bool.{Bool, true, false}
use mathlib.Core.Option.{Option, none, some, some-injective}
use mathlib.Core.List.{List}
use lib.Dec.{T, eqb}
use borrow.Author.Tests.{eq-eqb, eqb-true}
use Rattle.rules.specs.Bytes.{same}
use Rattle.rules.specs.San.{GeneralName, plain, other, srv_oid}
use Rattle.rules.specs.Matching.{if_some, tagged_text, srv_text}
use Rattle.reading.specs.Answers.{no_some}
use Rattle.demands.specs.Issuers.{IsSrv}
use Rattle.rules.proofs.Test.{same_eq}
use Rattle.demands.proofs.Places.{same_refl}

-- an entry of one tag has its content
pub tagged_is : (tag : ℕ) (n : GeneralName) (c : List ℕ) → tagged_text tag n ≡ some c ↔ n ≡ plain tag c
unfolding tagged_text
tagged_is tag n c = (there n, λ e. ap (tagged_text tag) e ∙ simp (eq-eqb tag tag refl))
  where
    there : (n : GeneralName) → tagged_text tag n ≡ some c → n ≡ plain tag c
    there (other o t d) e = absurd (no_some e)
    there (plain t d) e = go (eqb t tag) refl
      where
        go : (b : Bool) → eqb t tag ≡ b → plain t d ≡ plain tag c
        go true f =
            let p = eqb-true t tag f in
            let q : d ≡ c = some-injective d c (rw f at e) in
            λ i. plain (p i) (q i)
        go false f = absurd (no_some (rw f at e))

-- and an SRVName its IA5String
pub srv_is : (n : GeneralName) (c : List ℕ) → srv_text n ≡ some c ↔ IsSrv n c
unfolding srv_text
srv_is n c = (there n, λ h. ap srv_text h.1 ∙ simp (same_refl srv_oid))
  where
    there : (n : GeneralName) → srv_text n ≡ some c → IsSrv n c
    there (plain t d) e = absurd (no_some e)
    there (other o t d) e = go (same o srv_oid) refl
      where
        go : (b : Bool) → same o srv_oid ≡ b → IsSrv (other o t d) c
        go true f =
            let p = same_eq o srv_oid (rw f tt) in
            let q : d ≡ c = some-injective d c (rw f at e) in
            (t, λ i. other (p i) t (q i))
        go false f = absurd (no_some (rw f at e))

-- a test of a text that may be missing
pub some_passes : {A : Type 0} (o : Option A) (f : A → Bool) → T (if_some o f) ↔ (a : A) × (o ≡ some a) × T (f a)
some_passes {A} o f = (there o, λ h. rw h.1 h.2)
  where
    there : (o : Option A) → T (if_some o f) → (a : A) × (o ≡ some a) × T (f a)
    there none h = absurd h
    there (some a) h = (a, refl, h)
