-- The text of a name that has been validated, at the place that the code finds.
use Prim.Native.Nat.{ℕ, ◌-◌, ◌≤◌}
use mathlib.Core.Path.{◌≡◌, refl, sym, ap, ◌∙◌}
use mathlib.Core.Option.{Option, none, some}
use mathlib.Core.List.{List}
use native.Mathlib.Omega.{arith}
use lib.ListN.{length}
use lib.Seq.{slice}
use lib.Dec.{eqb}
use Rattle.octets.proofs.Cases.{by_cases}
use Rattle.rules.specs.Bytes.{same}
use Rattle.rules.specs.San.{GeneralName, plain, other, srv_oid, tag_of}
use Rattle.rules.specs.Matching.{tagged_text, srv_text}
use Rattle.std.specs.Prelude as std
use Rattle.std.specs.Prelude.{Some, None}
use Rattle.reading.specs.Answers.{no_some}
use Rattle.reading.proofs.Codec.{alone_c}
use Rattle.reading.proofs.Codecs.{name_c}
use Rattle.entries.specs.Entries.{text_of, whole_at, place_text, text_place}
use Rattle.reading.specs.Ends.{ends_element}
use Rattle.entries.specs.Texts.{TextAt, name_ends, text_at}

-- the text that is asked for is that of the name
unfoldable pub OwnText : (GeneralName → Option (List ℕ)) → Type 0
OwnText text = (m : GeneralName) (c : List ℕ) → text m ≡ some c → c ≡ text_of m

pub own_srv : OwnText srv_text
unfolding OwnText srv_text text_of
own_srv (plain t d) c e = absurd (no_some e)
own_srv (other o t d) c e =
    by_cases (same o srv_oid) (λ q. let f = rw q at e in cc) (λ q. absurd (no_some (rw q at e)))

pub own_tagged : (tag : ℕ) → OwnText (tagged_text tag)
unfolding OwnText tagged_text text_of
own_tagged tag (plain t d) c e =
    by_cases (eqb t tag) (λ q. let f = rw q at e in cc) (λ q. absurd (no_some (rw q at e)))
own_tagged tag (other o t d) c e = absurd (no_some e)

module _ (text : GeneralName → Option (List ℕ)) (s : List ℕ) (at end : ℕ) (r : std.Option ℕ) (r_is : r ≡ text_place text s at end)
    (m : GeneralName) (m_is : whole_at s at end ≡ some m) where
  -- it stands up to the name's end
  module _ (own : OwnText text) (h : at ≤ end) (fits : end ≤ length s) (x : ℕ) (found : r ≡ Some x) where
    last : TextAt s at end (end - length (text_of m)) (text_of m)
    unfolding whole_at
    last = text_at s at end h fits (rw ((alone_c name_c).sound (slice at end s) m_is).1 (ends_element (tag_of m) (name_ends m)))

    record There : Type 0 where
      pub within : x ≤ end
      pub text_is : text m ≡ some (slice x end s)

    there : There
    unfolding OwnText text_place place_text
    there = go (text m) refl
      where
        go : (o : Option (List ℕ)) → text m ≡ o → There
        go none q =
            let e : ◌≡◌ {A = std.Option ℕ} (Some x) None = sym found ∙ r_is ∙ rw (m_is, q) in
            let z : ◌≡◌ {A = ℕ} 0 1 = cc in absurd (omega arith)
        go (some c) q =
            let e : ◌≡◌ {A = std.Option ℕ} (Some x) (Some (end - length c)) = sym found ∙ r_is ∙ rw (m_is, q) in
            let k : x ≡ end - length c = cc in
            let t = own m c q in
            record {
              within = omega (arith, k);
              text_is = q ∙ ap {B = Option (List ℕ)} some (t ∙ last.text_is ∙ rw (← t, ← k));
            }

    pub text_there : text m ≡ some (slice x end s)
    text_there = there.text_is

    pub text_within : x ≤ end
    text_within = there.within

  -- or there is none
  pub text_not_there : r ≡ None → text m ≡ none
  unfolding text_place place_text
  text_not_there k = go (text m) refl
    where
      go : (o : Option (List ℕ)) → text m ≡ o → o ≡ none
      go none q = refl
      go (some c) q =
          let e : ◌≡◌ {A = std.Option ℕ} None (Some (end - length c)) = sym k ∙ r_is ∙ rw (m_is, q) in
          let z : ◌≡◌ {A = ℕ} 0 1 = cc in absurd (omega arith)
