-- The constraint strings of all issuers: how they are cut by their lengths, and what is seen of them together.
use Prim.Native.Nat.{ℕ, zero, suc, ◌≤◌, ◌<◌}
use mathlib.Core.Path.{◌≡◌, refl, sym, ap, ◌∙◌}
use mathlib.Core.Logic.{◌⊎◌, inl, inr}
use mathlib.Core.Option.{Option, none, some, some-injective}
use mathlib.Core.List.{List, [], ◌∷◌, ◌++◌, map}
use native.Mathlib.Omega.{arith}
use lib.ListN.{length, take, drop, get_elem?, length-append, length-drop, length-map, take-append-drop}
use lib.Seq.{take-append_seam, drop-append_seam}
use lib.Dec.{eqb, leb}
use borrow.Author.Tests.{le-leb, leb-true, eq-eqb, eqb-true}
use Rattle.rules.specs.Bytes.{cut, sum}
use Rattle.rules.specs.Numbers.{constraints_limit, most_issuers}
use Rattle.rules.specs.Der.{Member, run}
use Rattle.rules.specs.San.{GeneralName}
use Rattle.rules.specs.Seen.{Seen, too_long, unreadable, listed, constraints_input, Sees, lengths_fit, strings_of, strings_by, and_seen, together}
use Rattle.rules.proofs.Cases.{by_cases, and_left, and_right}
use Rattle.rules.proofs.Lengths.{cut_sizes}
use Rattle.reading.specs.Answers.{no_some}
use Rattle.reading.specs.Views.{seen_constraints}
use Rattle.reading.proofs.Views.{sees_constraints, constraints_seen}
use Rattle.reading.specs.Calls.{Inputs, seen_all, seen_issuers}
use Rattle.demands.specs.Statements.{Strings, SomeString, SeesEach, Unreadable}

-- ---- cut by their lengths

-- strings that stand end to end are cut by their own lengths, which add up to them
cut_run : (strings : List (List ℕ)) → cut (map length strings) (run (λ string. string) strings) ≡ strings
unfolding cut run
cut_run [] = refl
cut_run (s ∷ l) = rw (take-append_seam, drop-append_seam, cut_run l)

sum_run : (strings : List (List ℕ)) → sum (map length strings) ≡ length (run (λ string. string) strings)
unfolding sum run
sum_run [] = refl
sum_run (s ∷ l) = rw (length-append, sum_run l)

-- and what is cut by lengths stands end to end
run_cut : (ns b : List ℕ) → sum ns ≡ length b → run (λ string. string) (cut ns b) ≡ b
unfolding sum cut run
run_cut [] [] e = refl
run_cut [] (x ∷ b) e = absurd (omega arith)
run_cut (n ∷ ns) b e =
    let f = length-drop n b in
    ap (λ x. take n b ++ x) (run_cut ns (drop n b) (omega arith)) ∙ take-append-drop n b

whole : (strings : List (List ℕ)) → length strings ≤ most_issuers → strings_by (some (map length strings)) (run (λ string. string) strings) ≡ some strings
unfolding strings_by strings_of lengths_fit
whole strings h =
    let n = length-map strings length in
    rw (le-leb (length (map length strings)) most_issuers (omega arith), eq-eqb _ _ (sum_run strings), cut_run strings)

-- the strings handed over are those that the lengths cut
pub strings_cut : (s : Inputs) (strings : List (List ℕ)) → Strings s strings → strings_by s.lengths s.constraints ≡ some strings
strings_cut s strings h = (λ i. strings_by (h.lengths_are i) (h.end_to_end i)) ∙ whole strings h.at_most_eight

cut_strings : (s : Inputs) (strings : List (List ℕ)) → strings_by s.lengths s.constraints ≡ some strings → Strings s strings
unfolding strings_by strings_of lengths_fit
cut_strings s strings e = go s.lengths refl e
  where
    b : List ℕ
    b = s.constraints

    go : (o : Option (List ℕ)) → s.lengths ≡ o → strings_by o s.constraints ≡ some strings → Strings s strings
    go none q f = absurd (no_some f)
    go (some ns) q f =
        by_cases (lengths_fit ns (length s.constraints))
        (λ t.
        let few = leb-true (length ns) most_issuers (and_left (leb (length ns) most_issuers) (eqb (sum ns) (length s.constraints)) t) in
        let all = eqb-true (sum ns) (length s.constraints) (and_right (leb (length ns) most_issuers) (eqb (sum ns) (length s.constraints)) t) in
        let c : cut ns s.constraints ≡ strings = some-injective _ strings (rw t at f) in
        let d : map length strings ≡ ns = ap (map length) (sym c) ∙ cut_sizes ns s.constraints all in
        let n = length-map strings length in
        let m = ap length d in
        record {
          end_to_end = sym (run_cut ns s.constraints all) ∙ ap (run (λ string. string)) c;
          lengths_are = q ∙ ap some (sym d);
          at_most_eight = omega arith;
        })
        (λ t. absurd (no_some (rw t at f)))

pub one_cut : (s : Inputs) (strings strings' : List (List ℕ)) → Strings s strings → Strings s strings' → strings ≡ strings'
one_cut s strings strings' h k = some-injective strings strings' (sym (strings_cut s strings h) ∙ strings_cut s strings' k)

-- ---- what is seen of them together

together_listed : {A : Type 0} (ls : List (List A)) → together (map listed ls) ≡ listed ls
unfolding together
together_listed [] = refl
together_listed (l ∷ ls) = ap (and_seen (listed l)) (together_listed ls)

each_seen : (strings : List (List ℕ)) (xs : List (Seen (Member GeneralName))) → SeesEach strings xs → map seen_constraints strings ≡ xs
each_seen [] [] h = refl
each_seen [] (x ∷ xs) h = absurd h
each_seen (s ∷ l) [] h = absurd h
each_seen (s ∷ l) (x ∷ xs) h =
    let p : x ≡ seen_constraints s = constraints_seen s x h.0 in
    let q : map seen_constraints l ≡ xs = each_seen l xs h.1 in
    λ i. sym p i ∷ q i

-- by what is seen of each string
pub issuers_seen : (s : Inputs) (strings : List (List ℕ)) (xs : List (Seen (Member GeneralName))) → Strings s strings → SeesEach strings xs
    → seen_issuers s.lengths s.constraints ≡ together xs
unfolding seen_issuers
issuers_seen s strings xs h k = ap seen_all (strings_cut s strings h) ∙ ap together (each_seen strings xs k)

pub issuers_listed : (s : Inputs) (strings : List (List ℕ)) (ls : List (List (Member GeneralName))) → Strings s strings → SeesEach strings (map listed ls)
    → seen_issuers s.lengths s.constraints ≡ listed ls
issuers_listed s strings ls h k = issuers_seen s strings (map listed ls) h k ∙ together_listed ls

-- ---- the cases

-- one of the strings is so
abbrev Some : (List ℕ → Type 0) → List (List ℕ) → Type 0
Some P strings = (k : ℕ) × (string : List ℕ) × (get_elem? strings k ≡ some string) × P string

-- each of them is so
abbrev Each : (List ℕ → Type 0) → List (List ℕ) → Type 0
Each P strings = (k : ℕ) (string : List ℕ) → get_elem? strings k ≡ some string → P string

abbrev Long : List ℕ → Type 0
Long string = constraints_limit < length string

abbrev Fits : List ℕ → Type 0
Fits string = length string ≤ constraints_limit

module _ {P : List ℕ → Type 0} (s : List ℕ) (l : List (List ℕ)) where
  later : Some P l → Some P (s ∷ l)
  later h = (suc h.0, h.1, h.2, h.3)

  both : P s → Each P l → Each P (s ∷ l)
  both p h zero string e = rw (← some-injective s string e) p
  both p h (suc k) string e = h k string e

-- what follows from a string's list holds of each that has one
each_is : {P : List ℕ → Type 0} → ((string : List ℕ) (list : List (Member GeneralName)) → Sees constraints_input string (listed list) → P string)
    → (strings : List (List ℕ)) (ls : List (List (Member GeneralName))) → SeesEach strings (map listed ls) → Each P strings
each_is f [] [] h = λ k string e. absurd (no_some e)
each_is f [] (x ∷ ls) h = absurd h
each_is f (s ∷ l) [] h = absurd h
each_is f (s ∷ l) (x ∷ ls) h = both s l (f s x h.0) (each_is f l ls h.1)

each_fits : (strings : List (List ℕ)) (ls : List (List (Member GeneralName))) → SeesEach strings (map listed ls) → Each Fits strings
each_fits = each_is (λ string list h. h.0)

-- "too long if one is, else unreadable if one is, else the list of each"
data Gathered (strings : List (List ℕ)) : Type 0 where
  one_long : Some Long strings → together (map seen_constraints strings) ≡ too_long → Gathered strings
  one_bad : Each Fits strings → Some (Unreadable constraints_input) strings → together (map seen_constraints strings) ≡ unreadable → Gathered strings
  each_listed : (ls : List (List (Member GeneralName))) → SeesEach strings (map listed ls) → Gathered strings

gathered : (strings : List (List ℕ)) → Gathered strings
unfolding together
gathered [] = each_listed [] tt
gathered (s ∷ l) = go (seen_constraints s) (sees_constraints s) refl (gathered l)
  where
    go : (x : Seen (Member GeneralName)) → Sees constraints_input s x → seen_constraints s ≡ x → Gathered l → Gathered (s ∷ l)
    go too_long h e g = one_long (0, s, refl, h) (ap (λ x. and_seen x (together (map seen_constraints l))) e)
    go unreadable h e (one_long t f) = one_long (later s l t) (λ i. and_seen (e i) (f i))
    go unreadable h e (one_bad a t f) = one_bad (both s l h.0 a) (0, s, refl, h.1) (λ i. and_seen (e i) (f i))
    go unreadable h e (each_listed ls t) =
        let f = ap together (each_seen l (map listed ls) t) ∙ together_listed ls in
        one_bad (both s l h.0 (each_fits l ls t)) (0, s, refl, h.1) (λ i. and_seen (e i) (f i))
    go (listed x) h e (one_long t f) = one_long (later s l t) (λ i. and_seen (e i) (f i))
    go (listed x) h e (one_bad a t f) = one_bad (both s l h.0 a) (later s l t) (λ i. and_seen (e i) (f i))
    go (listed x) h e (each_listed ls t) = each_listed (x ∷ ls) (h, t)

-- what is handed over is no strings or a string that is too long; or all fit
abbrev pub LongStrings : Inputs → Type 0
LongStrings s = ((strings : List (List ℕ)) → ¬ Strings s strings) ⊎ SomeString s Long

pub record Within (s : Inputs) : Type 0 where
  pub strings : List (List ℕ)
  pub strings_are : Strings s strings
  pub each : Each Fits strings

pub within_not_long : (s : Inputs) → Within s → ¬ LongStrings s
within_not_long s w (inl h) = h w.strings w.strings_are
within_not_long s w (inr h) =
    let e = one_cut s h.0 w.strings h.1 w.strings_are in
    let f = w.each h.2 h.3 (ap (λ x. get_elem? x h.2) (sym e) ∙ h.4) in
    let g = h.5 in
    omega arith

-- where each string has its list
module _ (s : Inputs) (strings : List (List ℕ)) (h : Strings s strings) (ls : List (List (Member GeneralName))) (k : SeesEach strings (map listed ls)) where
  pub listed_within : Within s
  listed_within = record { strings = strings; strings_are = h; each = each_fits strings ls k }

  pub listed_readable : ¬ SomeString s (Unreadable constraints_input)
  listed_readable u =
      let e = one_cut s u.0 strings u.1 h in
      each_is {P = λ string. ¬ Unreadable constraints_input string} (λ string list h v. v list h.1) strings ls k u.2 u.3 (ap (λ x. get_elem? x u.2) (sym e) ∙ u.4) u.5

pub data Handed (s : Inputs) : Type 0 where
  long : LongStrings s → seen_issuers s.lengths s.constraints ≡ too_long → Handed s
  bad : Within s → SomeString s (Unreadable constraints_input) → seen_issuers s.lengths s.constraints ≡ unreadable → Handed s
  all : (strings : List (List ℕ)) → Strings s strings → (ls : List (List (Member GeneralName))) → SeesEach strings (map listed ls) → Handed s

pub handed : (s : Inputs) → Handed s
unfolding seen_issuers
handed s = go (strings_by s.lengths s.constraints) refl
  where
    some_of : (strings : List (List ℕ)) → Strings s strings → Gathered strings → Handed s
    some_of strings h (one_long t f) = long (inr (strings, h, t.0, t.1, t.2, t.3)) (ap seen_all (strings_cut s strings h) ∙ f)
    some_of strings h (one_bad a t f) =
        bad (record { strings = strings; strings_are = h; each = a }) (strings, h, t.0, t.1, t.2, t.3) (ap seen_all (strings_cut s strings h) ∙ f)
    some_of strings h (each_listed ls t) = all strings h ls t

    go : (o : Option (List (List ℕ))) → strings_by s.lengths s.constraints ≡ o → Handed s
    go none e = long (inl (λ strings h. no_some (sym e ∙ strings_cut s strings h))) (ap seen_all e)
    go (some strings) e = some_of strings (cut_strings s strings e) (gathered strings)
