-- What it shows that the usual name or the usual set is there, whose lengths are in short form.
use Rattle.std.specs.Prelude.{ℕ, ◌+◌, ◌≡◌, Bool, true, List}
use Rattle.std.specs.Prelude.{Ok}
use Rattle.der.specs.Places.{found, element_at}
use Rattle.entries.specs.Entries.{attribute_at, good_name_at}
use Rattle.entries.specs.declared.Name.{Name}
use Rattle.strings.specs.Counts.{set_at}

-- a test that suffices: a yes shows A, a no shows nothing
unfoldable pub Sufficient : Bool → Type 0 → Type 0
Sufficient r A = r ≡ true → A

-- an element of this tag stands at `at`, its length in short form, and A holds of where it ends
pub record Short (s : List ℕ) (at end tag : ℕ) (A : ℕ → Type 0) (next : ℕ) : Type 0 where
  pub element : element_at s at end ≡ found tag (at + 2) next
  pub holds : A next

-- a readable dNSName
abbrev pub UsualName : List ℕ → ℕ → ℕ → ℕ → Type 0
UsualName s at end = Short s at end 0x82 (λ next. good_name_at s 0x82 (at + 2) next ≡ true)

-- the content of a readable attribute
pub record UsualAttribute (s : List ℕ) (start end : ℕ) : Type 0 where
  pub name : Name
  pub named : attribute_at s 0x30 start end ≡ Ok name

-- a readable set of one attribute
abbrev pub UsualSet : List ℕ → ℕ → ℕ → ℕ → Type 0
UsualSet s at end = Short s at end 0x31 (λ next. set_at s (at + 2) next ≡ Ok 1)
