-- What is seen of the four inputs, by the tests that the code makes.
use Prim.Native.Nat.{ℕ}
use mathlib.Core.Path.{◌≡◌, refl, ap, ◌∙◌}
use mathlib.Core.Bool.{Bool, true, false, cond, not, ◌&&◌, ◌||◌, true≢false}
use mathlib.Core.Option.{Option, none, some, get_or}
use mathlib.Core.List.{List, [], ◌∷◌, map}
use lib.ListN.{length}
use lib.Dec.{ltb}
use Rattle.rules.specs.Bytes.{some?, all, any}
use Rattle.rules.specs.Numbers.{records_limit}
use Rattle.rules.specs.Records.{good_records, references_of}
use Rattle.rules.specs.Seen.{Seen, too_long, unreadable, listed, Input, and_seen, together, seen_records}
use Rattle.rules.specs.Verdict.{is_long, is_unreadable, list_of}
use Rattle.reading.specs.Reader.{is_some}
use Rattle.reading.specs.Views.{absent, listed_or, seen_of}
use Rattle.der.specs.Runs.{validated, names_of}
use Rattle.rules.proofs.Cases.{and_left, and_right}

-- ---- our records

pub records_long : (b : List ℕ) → is_long (seen_records b) ≡ ltb records_limit (length b)
unfolding seen_records
records_long b = go (ltb records_limit (length b)) (good_records b)
  where
    go : (t g : Bool) → is_long (cond t too_long (cond g (listed (references_of b)) unreadable)) ≡ t
    go true g = refl
    go false true = refl
    go false false = refl

pub records_bad : (b : List ℕ) → ltb records_limit (length b) ≡ false → is_unreadable (seen_records b) ≡ not (good_records b)
unfolding seen_records
records_bad b e = rw e (go (good_records b))
  where
    go : (g : Bool) → is_unreadable (cond g (listed (references_of b)) unreadable) ≡ not g
    go true = refl
    go false = refl

pub records_list : (b : List ℕ) → ltb records_limit (length b) ≡ false → good_records b ≡ true → list_of (seen_records b) ≡ references_of b
unfolding seen_records
records_list b e g = rw (e, g)

-- ---- a certificate string

listed_long : {N : Type 0} (o : Option (List N)) → is_long (listed_or o) ≡ false
listed_long none = refl
listed_long (some l) = refl

listed_bad : {N : Type 0} (o : Option (List N)) → is_unreadable (listed_or o) ≡ not (is_some o)
listed_bad none = refl
listed_bad (some l) = refl

listed_list : {N : Type 0} (o : Option (List N)) → list_of (listed_or o) ≡ get_or o []
listed_list none = refl
listed_list (some l) = refl

module _ {N : Type 0} (I : Input N) (read : List ℕ → Option (List N)) (b : List ℕ) where
  pub string_long : is_long (seen_of I read b) ≡ ltb I.limit (length b)
  unfolding seen_of
  string_long = go (ltb I.limit (length b)) (absent I b)
    where
      go : (t a : Bool) → is_long (cond t too_long (cond a (listed []) (listed_or (read b)))) ≡ t
      go true a = refl
      go false true = refl
      go false false = listed_long (read b)

  module _ (fits : ltb I.limit (length b) ≡ false) where
    -- a string that may be absent
    pub optional_bad : I.optional ≡ true → is_unreadable (seen_of I read b) ≡ not (validated read b)
    unfolding seen_of validated
    optional_bad o = rw (fits, o) (go b)
      where
        go : (c : List ℕ) → is_unreadable (cond (not (some? c)) (listed []) (listed_or (read b))) ≡ not (not (some? c) || is_some (read b))
        go [] = refl
        go (x ∷ c) = listed_bad (read b)

    pub optional_list : I.optional ≡ true → read [] ≡ none → list_of (seen_of I read b) ≡ names_of read b
    unfolding seen_of names_of
    optional_list o e = rw (fits, o) (go b refl)
      where
        go : (c : List ℕ) → b ≡ c → list_of (cond (not (some? c)) (listed []) (listed_or (read b))) ≡ get_or (read b) []
        go [] f = rw (f, e)
        go (x ∷ c) f = listed_list (read b)

    -- one that may not
    pub needed_bad : I.optional ≡ false → is_unreadable (seen_of I read b) ≡ not (is_some (read b))
    unfolding seen_of
    needed_bad o = rw (fits, o) (listed_bad (read b))

    pub needed_list : I.optional ≡ false → list_of (seen_of I read b) ≡ get_or (read b) []
    unfolding seen_of
    needed_list o = rw (fits, o) (listed_list (read b))

-- ---- several strings together

and_long : {A : Type 0} (x : Seen A) (xs : Seen (List A)) → is_long (and_seen x xs) ≡ (is_long x || is_long xs)
and_long too_long xs = refl
and_long unreadable too_long = refl
and_long unreadable unreadable = refl
and_long unreadable (listed ls) = refl
and_long (listed l) too_long = refl
and_long (listed l) unreadable = refl
and_long (listed l) (listed ls) = refl

and_bad : {A : Type 0} (x : Seen A) (xs : Seen (List A)) → is_long x ≡ false → is_long xs ≡ false
    → is_unreadable (and_seen x xs) ≡ (is_unreadable x || is_unreadable xs)
and_bad too_long xs e f = absurd (true≢false e)
and_bad unreadable too_long e f = absurd (true≢false f)
and_bad unreadable unreadable e f = refl
and_bad unreadable (listed ls) e f = refl
and_bad (listed l) too_long e f = absurd (true≢false f)
and_bad (listed l) unreadable e f = refl
and_bad (listed l) (listed ls) e f = refl

-- all strings are listed: the list of each
and_list : {A : Type 0} (x : Seen A) (xs : Seen (List A)) → is_long x ≡ false → is_long xs ≡ false → is_unreadable x ≡ false → is_unreadable xs ≡ false
    → list_of (and_seen x xs) ≡ list_of x ∷ list_of xs
and_list too_long xs e f g h = absurd (true≢false e)
and_list unreadable xs e f g h = absurd (true≢false g)
and_list (listed l) too_long e f g h = absurd (true≢false f)
and_list (listed l) unreadable e f g h = absurd (true≢false h)
and_list (listed l) (listed ls) e f g h = refl

or_parts : (a b : Bool) → (a || b) ≡ false → (a ≡ false) × (b ≡ false)
or_parts false b e = (refl, e)
or_parts true b e = absurd (true≢false e)

not_and : (a b : Bool) → (not a || not b) ≡ not (a && b)
not_and true b = refl
not_and false b = refl

-- strings that may be absent, each seen by itself
module _ {N : Type 0} (I : Input N) (read : List ℕ → Option (List N)) where
  pub strings_long : (l : List (List ℕ)) → is_long (together (map (seen_of I read) l)) ≡ any (ltb I.limit) (map length l)
  unfolding together
  strings_long [] = refl
  strings_long (s ∷ l) = and_long (seen_of I read s) (together (map (seen_of I read) l)) ∙ rw (string_long I read s, strings_long l)

  module _ (o : I.optional ≡ true) where
    pub strings_bad : (l : List (List ℕ)) → any (ltb I.limit) (map length l) ≡ false
        → is_unreadable (together (map (seen_of I read) l)) ≡ not (all (validated read) l)
    unfolding together
    strings_bad [] f = refl
    strings_bad (s ∷ l) f =
        let p = or_parts (ltb I.limit (length s)) (any (ltb I.limit) (map length l)) f in
        and_bad (seen_of I read s) (together (map (seen_of I read) l)) (string_long I read s ∙ p.0) (strings_long l ∙ p.1)
        ∙ rw (optional_bad I read s p.0 o, strings_bad l p.1) (not_and (validated read s) (all (validated read) l))

    pub strings_list : read [] ≡ none → (l : List (List ℕ)) → any (ltb I.limit) (map length l) ≡ false → all (validated read) l ≡ true
        → list_of (together (map (seen_of I read) l)) ≡ map (names_of read) l
    unfolding together
    strings_list e [] f g = refl
    strings_list e (s ∷ l) f g =
        let p = or_parts (ltb I.limit (length s)) (any (ltb I.limit) (map length l)) f in
        let v = and_left (validated read s) (all (validated read) l) g in
        let w = and_right (validated read s) (all (validated read) l) g in
        and_list (seen_of I read s) (together (map (seen_of I read) l)) (string_long I read s ∙ p.0) (strings_long l ∙ p.1)
        (optional_bad I read s p.0 o ∙ ap not v) (strings_bad l p.1 ∙ ap not w)
        ∙ rw (optional_list I read s p.0 o e, strings_list e l p.1 w)
