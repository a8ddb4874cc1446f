-- The list that is asked for, name by name: its judgement, how long it is as it is written, and what is left to put.
use Prim.Native.Nat.{ℕ, suc, ◌+◌, ◌*◌, ◌≤◌}
use mathlib.Core.Path.{◌≡◌, refl, sym, ap, subst, ◌∙◌}
use mathlib.Core.Bool.{Bool, true, false, ◌&&◌}
use mathlib.Core.List.{List, [], ◌∷◌, ◌++◌, map}
use native.Mathlib.Omega.{arith}
use lib.ListN.{length, take, drop, length-append, take-append-drop, length-drop}
use lib.Seq.{length-take-le}
use Rattle.rules.specs.Bytes.{all, cut, sum}
use Rattle.rules.specs.Der.{run}
use Rattle.rules.specs.Writing.{Request, request, Writer, asked}
use Rattle.rules.proofs.Cases.{and_left, and_right}
use Rattle.rules.proofs.Lengths.{cut_sizes}
use Rattle.output.specs.Output.{Fits, Put}
use Rattle.output.proofs.Laws.{Left, left_first, left_next, left_end}
use Rattle.writing.specs.Parts.{Parts}
use Rattle.writing.specs.Listed.{made, listed}
use Rattle.writing.specs.declared.list.Name.{Name as OneName}
use Rattle.writing.specs.declared.list.Names.{Names}
use Rattle.writing.proofs.Cutting.{cut_append, cut_length, sum_parts}

module _ {Name : Type 0} {W : Writer Name} {make : ℕ → List (List ℕ) → Name} {bytes : Name → List ℕ} {head : ℕ → List ℕ} {per limit : ℕ} (P : Parts W make bytes head per limit) where
  -- no names
  pub asked_none : (q : Request) → q.kinds ≡ [] → asked W q ≡ []
  unfolding asked
  asked_none q e = rw e (P.none (cut q.lengths q.texts))

  -- the first name, and the others
  module _ (q rest : Request) (kind : ℕ) (ns ts : List ℕ) (ks_are : q.kinds ≡ kind ∷ rest.kinds) (ns_are : q.lengths ≡ ns ++ rest.lengths) (ts_are : q.texts ≡ ts ++ rest.texts) (many : length ns ≡ per) (whole : sum ns ≡ length ts) where
    abbrev this : Name
    this = make kind (cut ns ts)

    pub asked_next : asked W q ≡ this ∷ asked W rest
    unfolding asked
    asked_next =
        rw (ks_are, ns_are, ts_are)
        (ap (W.names (kind ∷ rest.kinds)) (cut_append ns rest.lengths ts rest.texts whole)
        ∙ P.next kind rest.kinds (cut ns ts) (cut rest.lengths rest.texts) (cut_length ns ts ∙ many ∙ sym P.per_is))

    pub judged : all W.good (asked W q) ≡ W.good this && all W.good (asked W rest)
    judged = ap (all W.good) asked_next

    pub written_next : run bytes (asked W q) ≡ bytes this ++ run bytes (asked W rest)
    unfolding run
    written_next = ap (run bytes) asked_next

    pub length_next : length (run bytes (asked W q)) ≡ length (bytes this) + length (run bytes (asked W rest))
    length_next = ap length written_next ∙ length-append (bytes this) (run bytes (asked W rest))

    module _ (good : all W.good (asked W q) ≡ true) where
      pub this_good : W.good this ≡ true
      this_good = and_left (W.good this) _ (sym judged ∙ good)

      pub others_good : all W.good (asked W rest) ≡ true
      others_good = and_right (W.good this) _ (sym judged ∙ good)

      pub this_longer : length ts ≤ length (bytes this)
      this_longer =
          let e : sum (map length (cut ns ts)) ≡ length ts = rw (cut_sizes ns ts whole) whole in
          omega (arith, P.longer kind (cut ns ts) (cut_length ns ts ∙ many ∙ sym P.per_is) this_good)

    pub texts_next : length q.texts ≡ length ts + length rest.texts
    texts_next = ap length ts_are ∙ length-append ts rest.texts

    -- what is left to put
    module _ (b₀ : List ℕ) (at₀ : ℕ) (text b : List ℕ) (at : ℕ) (left : Left b₀ at₀ text b at (run bytes (asked W q))) where
      next_left : Left b₀ at₀ text b at (bytes this ++ run bytes (asked W rest))
      next_left = subst (Left b₀ at₀ text b at) written_next left

      pub fits_this : Fits b at (bytes this)
      fits_this = left_first b₀ at₀ text b at (bytes this) (run bytes (asked W rest)) next_left

      pub put_this : (b' : List ℕ) (at' : ℕ) → Put b at (bytes this) b' at' → Left b₀ at₀ text b' at' (run bytes (asked W rest))
      put_this = left_next b₀ at₀ text b at (bytes this) (run bytes (asked W rest)) next_left

  pub none_left : (q : Request) → q.kinds ≡ [] → (b₀ : List ℕ) (at₀ : ℕ) (text b : List ℕ) (at : ℕ) → Left b₀ at₀ text b at (run bytes (asked W q)) → Put b₀ at₀ text b at
  unfolding run
  none_left q e b₀ at₀ text b at left =
      left_end b₀ at₀ text b at (subst (λ l. Left b₀ at₀ text b at (run bytes l)) (asked_none q e) left)

  -- the names are no shorter than their texts
  pub longer : (ks ns ts : List ℕ) → length ns ≡ per * length ks → sum ns ≡ length ts → all W.good (asked W (request ks ns ts)) ≡ true
      → length ts ≤ length (run bytes (asked W (request ks ns ts)))
  unfolding sum
  longer [] [] ts m w g = omega arith
  longer [] (n ∷ ns) ts m w g = absurd (omega arith)
  longer (k ∷ ks) ns ts m w g =
      let own : List ℕ = take per ns in
      let n : ℕ = sum (take per ns) in
      let parts : sum own + sum (drop per ns) ≡ sum ns = sum_parts ns own (drop per ns) per refl refl in
      let many : length own ≡ per = length-take-le per ns (omega (arith, le-mul_first (length ks))) in
      let text_is : length (take n ts) ≡ n = length-take-le n ts (omega (arith, parts)) in
      let q : Request = request (k ∷ ks) ns ts in
      let rest : Request = request ks (drop per ns) (drop n ts) in
      let ns_are : ns ≡ own ++ drop per ns = sym (take-append-drop per ns) in
      let ts_are : ts ≡ take n ts ++ drop n ts = sym (take-append-drop n ts) in
      let a = this_longer q rest k own (take n ts) refl ns_are ts_are many (sym text_is) g in
      let e = length_next q rest k own (take n ts) refl ns_are ts_are many (sym text_is) in
      let d = texts_next q rest k own (take n ts) refl ns_are ts_are many (sym text_is) in
      let ih =
      longer ks (drop per ns) (drop n ts) (omega (arith, length-drop per ns)) (omega (arith, parts, length-drop n ts))
      (others_good q rest k own (take n ts) refl ns_are ts_are many (sym text_is) g) in
      omega (arith, a, e, d, ih)
    where
      le-mul_first : (m : ℕ) → per ≤ per * suc m
      le-mul_first m = omega arith

  -- the same, by the code's types
  module _ (names : Names) (name : OneName) (others : Names) (p : names.per ≡ per) (split : (names.kinds.now ≡ name.kind ∷ others.kinds.now) × (names.lengths.now ≡ name.lengths.now ++ others.lengths.now) × (names.texts.now ≡ name.texts.now ++ others.texts.now) × (length name.lengths.now ≡ names.per) × (others.per ≡ names.per)) where
    pub per_next : others.per ≡ per
    per_next = split.4 ∙ p

    pub kinds_next : length names.kinds.now ≡ suc (length others.kinds.now)
    kinds_next = ap length split.0

    pub name_per : length name.lengths.now ≡ per
    name_per = split.3 ∙ p

    module _ (good : all W.good (asked W (listed names)) ≡ true) where
      pub name_good : W.good (made make name) ≡ true
      name_good = this_good (listed names) (listed others) name.kind _ _ split.0 split.1 split.2 name_per name.whole good

      pub good_next : all W.good (asked W (listed others)) ≡ true
      good_next = others_good (listed names) (listed others) name.kind _ _ split.0 split.1 split.2 name_per name.whole good

    pub judged_next : all W.good (asked W (listed names)) ≡ W.good (made make name) && all W.good (asked W (listed others))
    judged_next = judged (listed names) (listed others) name.kind _ _ split.0 split.1 split.2 name_per name.whole

    pub judged_bad : (g : Bool) → g ≡ W.good (made make name) → g ≡ false → false ≡ all W.good (asked W (listed names))
    judged_bad g e n = sym (judged_next ∙ rw (← e, n))

    pub judged_good : (g : Bool) → g ≡ W.good (made make name) → g ≡ true → all W.good (asked W (listed others)) ≡ all W.good (asked W (listed names))
    judged_good g e n = sym (judged_next ∙ rw (← e, n))

    pub size_next : length (run bytes (asked W (listed names))) ≡ length (bytes (made make name)) + length (run bytes (asked W (listed others)))
    size_next = length_next (listed names) (listed others) name.kind _ _ split.0 split.1 split.2 name_per name.whole

    pub short_next : length names.texts.now ≡ length name.texts.now + length others.texts.now
    short_next = texts_next (listed names) (listed others) name.kind _ _ split.0 split.1 split.2 name_per name.whole

    module _ (b₀ : List ℕ) (at₀ : ℕ) (text b : List ℕ) (at : ℕ) (left : Left b₀ at₀ text b at (run bytes (asked W (listed names)))) where
      pub fits_name : Fits b at (bytes (made make name))
      fits_name = fits_this (listed names) (listed others) name.kind _ _ split.0 split.1 split.2 name_per name.whole b₀ at₀ text b at left

      pub put_next : (b' : List ℕ) (at' : ℕ) → Put b at (bytes (made make name)) b' at' → Left b₀ at₀ text b' at' (run bytes (asked W (listed others)))
      put_next = put_this (listed names) (listed others) name.kind _ _ split.0 split.1 split.2 name_per name.whole b₀ at₀ text b at left

  pub texts_within : (names : Names) → names.per ≡ per → all W.good (asked W (listed names)) ≡ true → length names.texts.now ≤ length (run bytes (asked W (listed names)))
  texts_within names p g = longer names.kinds.now names.lengths.now names.texts.now (rw (← p) names.many) names.whole g
