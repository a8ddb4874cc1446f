-- The law of a listing's rows, `Laid`, proved for the three grammars and for what is seen of a string; so is the row that a viewer shows.
use Rattle.std.specs.Prelude.{ℕ, suc, ◌+◌, ◌≤◌, ◌<◌, refl, Bool, true, false, eqb, leb, Some, None}
use Rattle.std.specs.Prelude as std
use Rattle.std.proofs.Math.Path.{◌≡◌, ap, subst}
use Rattle.std.proofs.Common.{sym, ◌∙◌, inl, inr, arith, length-append, le-leb, leb-true, leb-false}
use Rattle.std.proofs.Math.Option.{none, some, some-injective}
use mathlib.Core.List.{List, [], ◌∷◌, ◌++◌}
use Rattle.std.proofs.Math.ListN.{length}
use Rattle.std.proofs.lemmas.Bool.{lt-leb}
use Rattle.rules.specs.Der.{Member, Group, element, header, run, groups, rows_of_members, rows_of_groups, Writes}
use Rattle.rules.specs.San.{GeneralName, write_name, tag_of, content_of, rows_of_names, san_grammar}
use Rattle.rules.specs.Subject.{Attribute, write_attribute, attribute_row, write_set, subject_grammar}
use Rattle.rules.specs.Constraints.{write_subtree, subtree_row, write_side, constraints_grammar}
use Rattle.rules.specs.Seen.{Seen, too_long, unreadable, listed, Input, san_input, subject_input, constraints_input, Reads, Sees}
use Rattle.rules.specs.Listing.{rows_seen}
use Rattle.rules.specs.Viewer.{row_from}
use Rattle.rules.specs.declared.Row.{Row}
use Rattle.reading.specs.Answers.{no_some}
use Rattle.reading.proofs.Element.{element_length}
use Rattle.reading.specs.Views.{seen_san, seen_subject, seen_constraints}
use Rattle.reading.proofs.Views.{sees_san, sees_subject, sees_constraints}
use Rattle.reading.specs.Calls.{seen_rows}
use Rattle.reading.specs.Laid.{Laid, over, next}

pub laid_from : {at to end : ℕ} {rows : List Row} → to ≤ at → Laid at end rows → Laid to end rows
laid_from {to} {end} h (over e) = over {at = to} {end = end} (omega arith)
laid_from {to} {end} h (next {r} e f l) =
    let k : to ≤ r.start = omega arith in
    next k f l

laid_fits : {at end : ℕ} {rows : List Row} → Laid at end rows → at ≤ end
laid_fits (over e) = e
laid_fits (next e f l) = omega (arith, laid_fits l)

-- ---- the first row from a position

pub row_here : (at : ℕ) (r : Row) (rows : List Row) → at ≤ r.start → row_from at (r ∷ rows) ≡ some r
unfolding row_from
row_here at r rows h = rw (le-leb at r.start h)

pub row_later : (at : ℕ) (r : Row) (rows : List Row) → r.start < at → row_from at (r ∷ rows) ≡ row_from at rows
unfolding row_from
row_later at r rows h = rw (lt-leb at r.start h)

pub row_none : (at : ℕ) → row_from at [] ≡ none
unfolding row_from
row_none at = refl

-- it ends within the string
pub row_within : {at end : ℕ} (rows : List Row) → Laid at end rows → (q : ℕ) (r : Row) → row_from q rows ≡ some r → r.start + r.length ≤ end
row_within [] l q r e = absurd (no_some (sym (row_none q) ∙ e))
row_within {at} {end} (p ∷ rows) (next h k l) q r e = go (row_within {at = p.start + p.length} rows l q r) (leb q p.start) refl
  where
    go : (row_from q rows ≡ some r → r.start + r.length ≤ end) → (t : Bool) → leb q p.start ≡ t → r.start + r.length ≤ end
    go rest true f =
        let same : p ≡ r = some-injective p r (sym (row_here q p rows (leb-true q p.start f)) ∙ e) in
        subst (λ x. x.start + x.length ≤ end) same (laid_fits l)
    go rest false f = rest (sym (row_later q p rows (leb-false q p.start f)) ∙ e)

-- an end shows no row
pub end_or_row : {r : Row} → ◌≡◌ {A = std.Option Row} None (Some r) → ⊥
end_or_row e = let z : ◌≡◌ {A = ℕ} 0 1 = cc in omega arith

-- ---- names side by side

element_some : (t : ℕ) (c : List ℕ) → 0 < length (element t c)
unfolding element
element_some t c = omega arith

name_some : (n : GeneralName) → 0 < length (write_name n)
unfolding write_name
name_some n = element_some (tag_of n) (content_of n)

run_length : {A : Type 0} (write : A → List ℕ) (a : A) (l : List A) → length (run write (a ∷ l)) ≡ length (write a) + length (run write l)
unfolding run
run_length write a l = length-append (write a) (run write l)

names_laid : (l : List GeneralName) (at i end : ℕ) → at + length (run write_name l) ≤ end → Laid at end (rows_of_names at i l)
unfolding rows_of_names
names_laid [] at i end h = over {at = at} {end = end} (omega arith)
names_laid (n ∷ l) at i end h =
    let k = run_length write_name n l in
    let j : at ≤ at = omega arith in
    next j (name_some n) (names_laid l (at + length (write_name n)) (suc i) end (omega arith))

-- ---- names in groups

-- a row lies in what its name is written as, and is not empty
record Within (at size : ℕ) (r : Row) : Type 0 where
  from : at ≤ r.start
  some_bytes : 0 < r.length
  to : r.start + r.length ≤ at + size

module _ {A : Type 0} (write : A → List ℕ) (row : ℕ → ℕ → A → Row) (within : (at number : ℕ) (a : A) → Within at (length (write a)) (row at number a)) where
  -- the rows of one group's names, before others
  members_laid : (l : List A) (at number end mid : ℕ) (rest : List Row) → at + length (run write l) ≤ mid → Laid mid end rest
      → Laid at end (rows_of_members write row at number l ++ rest)
  unfolding rows_of_members
  members_laid [] at number end mid rest h r = laid_from (omega arith) r
  members_laid (a ∷ l) at number end mid rest h r =
      let k = run_length write a l in
      let w = within at number a in
      next w.from w.some_bytes (laid_from w.to (members_laid l (at + length (write a)) number end mid rest (omega arith) r))

  -- groups side by side, each an element around its names
  groups_laid : (tag : Group A → ℕ) (write_group : Group A → List ℕ) → ((g : Group A) → write_group g ≡ element (tag g) (run write g.members))
      → (gs : List (Group A)) (at end : ℕ) → at + length (run write_group gs) ≤ end → Laid at end (rows_of_groups write row at gs)
  unfolding rows_of_groups
  groups_laid tag write_group is [] at end h = over {at = at} {end = end} (omega arith)
  groups_laid tag write_group is (g ∷ gs) at end h =
      let c = run write g.members in
      let k = run_length write_group g gs in
      let j : length (write_group g) ≡ header c + length c = ap length (is g) ∙ element_length (tag g) c in
      let rest = groups_laid tag write_group is gs (at + header c + length c) end (omega arith) in
      laid_from (omega arith) (members_laid g.members (at + header c) g.number end (at + header c + length c) _ (omega arith) rest)

-- ---- the three grammars

-- the content of a string's own element ends with it
content_ends : (b c : List ℕ) → b ≡ element 0x30 c → header c + length c ≤ length b
content_ends b c e = let k = ap length e ∙ element_length 0x30 c in omega arith

pub san_laid : (b : List ℕ) (l : List GeneralName) → Writes san_grammar l b → Laid 0 (length b) (san_grammar.rows l)
san_laid b l w =
    let c = run write_name l in
    laid_from (omega arith) (names_laid l (header c) 0 (length b) (content_ends b c w.bytes_are))

attribute_within : (at number : ℕ) (a : Attribute) → Within at (length (write_attribute a)) (attribute_row at number a)
unfolding attribute_row write_attribute
attribute_within at number a = record { from = omega arith; some_bytes = element_some _ _; to = omega arith }

pub subject_laid : (b : List ℕ) (l : List (Member Attribute)) → Writes subject_grammar l b → Laid 0 (length b) (subject_grammar.rows l)
unfolding write_set
subject_laid b l w =
    let c = run write_set (groups l) in
    laid_from (omega arith)
    (groups_laid write_attribute attribute_row attribute_within (λ g. 0x31) write_set (λ g. refl) (groups l) (header c) (length b) (content_ends b c w.bytes_are))

subtree_within : (at number : ℕ) (n : GeneralName) → Within at (length (write_subtree n)) (subtree_row at number n)
unfolding subtree_row write_subtree
subtree_within at number n =
    let k = element_length 0x30 (write_name n) in
    record { from = omega arith; some_bytes = name_some n; to = omega arith }

pub constraints_laid : (b : List ℕ) (l : List (Member GeneralName)) → Writes constraints_grammar l b → Laid 0 (length b) (constraints_grammar.rows l)
unfolding write_side
constraints_laid b l w =
    let c = run write_side (groups l) in
    laid_from (omega arith)
    (groups_laid write_subtree subtree_row subtree_within (λ g. 0xA0 + g.number) write_side (λ g. refl) (groups l) (header c) (length b) (content_ends b c w.bytes_are))

-- ---- what is seen of a string

module _ {Name : Type 0} (I : Input Name) (laid : (b : List ℕ) (l : List Name) → Writes I.grammar l b → Laid 0 (length b) (I.grammar.rows l))
    (no_rows : I.grammar.rows [] ≡ []) where
  seen_laid : (b : List ℕ) (x : Seen Name) → Sees I b x → (rows : List Row) → rows_seen I.grammar x ≡ listed rows → Laid 0 (length b) rows
  unfolding rows_seen
  seen_laid b too_long s rows e = let z : ◌≡◌ {A = ℕ} 0 1 = cc in absurd (omega arith)
  seen_laid b unreadable s rows e = let z : ◌≡◌ {A = ℕ} 0 1 = cc in absurd (omega arith)
  seen_laid b (listed l) s rows e = subst (Laid 0 (length b)) same (go s.1)
    where
      same : I.grammar.rows l ≡ rows
      same = cc

      go : Reads I b l → Laid 0 (length b) (I.grammar.rows l)
      go (inl w) = laid b l w
      go (inr w) = subst (Laid 0 (length b)) (sym (ap I.grammar.rows w.2 ∙ no_rows)) (over {at = 0} {end = length b} (omega arith))

-- the rows of every listing lie side by side
pub rows_laid : (which : ℕ) (b : List ℕ) (rows : List Row) → seen_rows which b ≡ listed rows → Laid 0 (length b) rows
unfolding seen_rows rows_of_names groups rows_of_groups
rows_laid which b rows e = go (eqb which 0) (eqb which 1) refl refl
  where
    go : (t u : Bool) → eqb which 0 ≡ t → eqb which 1 ≡ u → Laid 0 (length b) rows
    go true u f g = seen_laid san_input san_laid refl b (seen_san b) (sees_san b) rows (rw f at e)
    go false true f g = seen_laid subject_input subject_laid refl b (seen_subject b) (sees_subject b) rows (rw (f, g) at e)
    go false false f g = seen_laid constraints_input constraints_laid refl b (seen_constraints b) (sees_constraints b) rows (rw (f, g) at e)
