-- The laws of what is put: puts side by side are one.
use Prim.Native.Nat.{ℕ, ◌+◌, ◌/◌, ◌%◌, ◌<◌, ◌≤◌}
use mathlib.Core.Path.{◌≡◌, refl, sym, ◌∙◌}
use mathlib.Core.List.{List, [], ◌∷◌, ◌++◌, append_assoc, append-nil}
use native.Mathlib.Nat.{add_assoc, add-zero}
use native.Mathlib.Omega.{arith}
use lib.ListN.{length, get_or, take, drop, set, length-append, length-drop, take-append-drop}
use lib.Seq.{paste, paste-zero, paste-suc, take_all, take_at, drop_at, drop-drop, length-take-le}
use native.Mathlib.Numerals.{add-one}
use borrow.Rule.Slice.PartMut.{put_mid}
use borrow.Author.Tests.{lt-ltb, le-ltb}
use Rattle.rules.specs.Der.{length_bytes, element, header}
use Rattle.reading.proofs.Element as der
use Rattle.output.specs.Output.{pasted, Fits, Put, start, element_size}

-- ---- sizes

pub size_short : (n : ℕ) → n < 128 → n + 2 ≡ element_size n
unfolding element_size length_bytes
size_short n h = simp (lt-ltb _ _ h) (omega arith)

pub size_long : (n : ℕ) → 128 ≤ n → n < 256 → n + 3 ≡ element_size n
unfolding element_size length_bytes
size_long n h k = simp (le-ltb _ _ h, lt-ltb _ _ k) (omega arith)

pub size_longest : (n : ℕ) → 256 ≤ n → n + 4 ≡ element_size n
unfolding element_size length_bytes
size_longest n h = simp (le-ltb n 128 (omega arith), le-ltb _ _ h) (omega arith)

pub element_length : (tag : ℕ) (c : List ℕ) → length (element tag c) ≡ element_size (length c)
unfolding header element_size
element_length tag c = der.element_length tag c

-- ---- a text

-- the buffer with a text in the place of as many bytes
pub put_whole : (b : List ℕ) (at n : ℕ) (s t : List ℕ) → t ≡ s → n ≡ length s → Put b at s (put_mid at n b t) (at + length s)
unfolding Put pasted
put_whole b at n s t e h = (rw (e, h, drop-drop) (simp append_assoc), refl)

-- the first k bytes of s are put
unfoldable pub Putting : List ℕ → ℕ → List ℕ → List ℕ → ℕ → Type 0
Putting b₀ at s b k = b ≡ paste b₀ at s k

module _ (b₀ : List ℕ) (at : ℕ) (s : List ℕ) where
  pub put_none : Putting b₀ at s b₀ 0
  unfolding Putting
  put_none = paste-zero b₀ at s

  module _ (b : List ℕ) (k : ℕ) (inv : Putting b₀ at s b k) where
    pub put_more : at + k < length b₀ → k < length s → Putting b₀ at s (set b (at + k) (get_or s k 0)) (k + 1)
    unfolding Putting
    put_more h l = rw (add-one, inv) (paste-suc b₀ at s k 0 h l)

    pub put_all : k ≡ length s → Put b₀ at s b (at + length s)
    unfolding Putting Put pasted
    put_all e = (inv ∙ rw (e, take_all (length s) s (omega arith)), refl)

-- ---- puts side by side

-- what is left to put of the whole: it fits, and whoever puts it has put the whole
pub record Left (b₀ : List ℕ) (at₀ : ℕ) (whole b : List ℕ) (at : ℕ) (rest : List ℕ) : Type 0 where
  pub fits : Fits b at rest
  pub leads : (b'' : List ℕ) (at'' : ℕ) → Put b at rest b'' at'' → Put b₀ at₀ whole b'' at''

pub left_begin : (b : List ℕ) (at : ℕ) (whole : List ℕ) → Fits b at whole → Left b at whole b at whole
left_begin b at whole f = record { fits = f; leads = λ b'' at'' p. p }

module _ (b : List ℕ) (at : ℕ) (s t : List ℕ) (fits : Fits b at (s ++ t)) where
  room : at + (length s + length t) ≤ length b
  unfolding Fits
  room = simp length-append at fits

  first : Fits b at s
  unfolding Fits
  first = omega (arith, room)

  module _ (b' : List ℕ) (at' : ℕ) (put : Put b at s b' at') where
    then : Fits b' at' t
    unfolding Fits Put pasted
    then = rw (put.0, put.1) (simp (length-append, length-take-le at b (omega (arith, room)), length-drop) (omega (arith, room)))

    both : (b'' : List ℕ) (at'' : ℕ) → Put b' at' t b'' at'' → Put b at (s ++ t) b'' at''
    unfolding Put pasted
    both b'' at'' next =
        let e : length (take at b ++ s) ≡ at + length s = simp (length-append, length-take-le at b (omega (arith, room))) in (
          next.0 ∙ rw (put.0, put.1, take_at (take at b ++ s) (drop (at + length s) b) (at + length s) e, ← drop-drop, drop_at (take at b ++ s) (drop (at + length s) b) (at + length s) e, drop-drop, length-append, ← add_assoc)
              (simp append_assoc),
          next.1 ∙ rw (put.1, length-append, add_assoc),
        )

module _ (b₀ : List ℕ) (at₀ : ℕ) (whole b : List ℕ) (at : ℕ) where
  module _ (s t : List ℕ) (left : Left b₀ at₀ whole b at (s ++ t)) where
    pub left_first : Fits b at s
    left_first = first b at s t left.fits

    pub left_next : (b' : List ℕ) (at' : ℕ) → Put b at s b' at' → Left b₀ at₀ whole b' at' t
    left_next b' at' put = record {
      fits = then b at s t left.fits b' at' put;
      leads = λ b'' at'' next. left.leads b'' at'' (both b at s t left.fits b' at' put b'' at'' next);
    }

  pub left_end : Left b₀ at₀ whole b at [] → Put b₀ at₀ whole b at
  unfolding Put pasted
  left_end left = left.leads b at (sym (rw (add-zero, append-nil) (take-append-drop at b)), rw add-zero)

-- ---- an element: its start, then its content

-- the start, by the content's length
module _ (tag n : ℕ) where
  pub start_short : n < 128 → start tag n ≡ tag ∷ n ∷ []
  unfolding start length_bytes
  start_short h = simp (lt-ltb _ _ h)

  pub start_long : 128 ≤ n → n < 256 → start tag n ≡ tag ∷ 0x81 ∷ n ∷ []
  unfolding start length_bytes
  start_long h k = simp (le-ltb _ _ h, lt-ltb _ _ k)

  pub start_longest : 256 ≤ n → start tag n ≡ tag ∷ 0x82 ∷ n / 256 ∷ n % 256 ∷ []
  unfolding start length_bytes
  start_longest h = simp (le-ltb n 128 (omega arith), le-ltb _ _ h)

  module _ (b : List ℕ) (at : ℕ) where
    pub fits_short : (m : ℕ) → Fits b at (start tag n) → n < 128 → m ≡ n → Fits b at (tag ∷ m ∷ [])
    fits_short m f h e = rw e (rw (start_short h) at f)

    pub fits_long : (m : ℕ) → Fits b at (start tag n) → 128 ≤ n → n < 256 → m ≡ n → Fits b at (tag ∷ 0x81 ∷ m ∷ [])
    fits_long m f h k e = rw e (rw (start_long h k) at f)

    pub fits_longest : (l m : ℕ) → Fits b at (start tag n) → 256 ≤ n → l ≡ n / 256 → m ≡ n % 256 → Fits b at (tag ∷ 0x82 ∷ l ∷ m ∷ [])
    fits_longest l m f h e g = rw (e, g) (rw (start_longest h) at f)

    module _ (b' : List ℕ) (at' : ℕ) where
      pub put_short : (m : ℕ) → n < 128 → m ≡ n → Put b at (tag ∷ m ∷ []) b' at' → Put b at (start tag n) b' at'
      put_short m h e p = rw (start_short h, ← e) p

      pub put_long : (m : ℕ) → 128 ≤ n → n < 256 → m ≡ n → Put b at (tag ∷ 0x81 ∷ m ∷ []) b' at' → Put b at (start tag n) b' at'
      put_long m h k e p = rw (start_long h k, ← e) p

      pub put_longest : (l m : ℕ) → 256 ≤ n → l ≡ n / 256 → m ≡ n % 256 → Put b at (tag ∷ 0x82 ∷ l ∷ m ∷ []) b' at' → Put b at (start tag n) b' at'
      put_longest l m h e g p = rw (start_longest h, ← e, ← g) p

-- the whole, where its content's length is at hand
pub element_is : (tag : ℕ) (c : List ℕ) (n : ℕ) → n ≡ length c → element tag c ≡ start tag n ++ c
unfolding element start
element_is tag c n e = rw e

module _ (tag : ℕ) (c b : List ℕ) (at : ℕ) (fits : Fits b at (element tag c)) where
  begun : Left b at (element tag c) b at (start tag (length c) ++ c)
  unfolding element start
  begun = left_begin b at (element tag c) fits

  pub fits_start : Fits b at (start tag (length c))
  fits_start = left_first b at (element tag c) b at (start tag (length c)) c begun

  module _ (b' : List ℕ) (at' : ℕ) (put : Put b at (start tag (length c)) b' at') where
    content : Left b at (element tag c) b' at' c
    content = left_next b at (element tag c) b at (start tag (length c)) c begun b' at' put

    pub fits_content : Fits b' at' c
    fits_content = content.fits

    pub put_content : (b'' : List ℕ) (at'' : ℕ) → Put b' at' c b'' at'' → Put b at (element tag c) b'' at''
    put_content = content.leads

pub ruleset laws = (
  size_short,
  size_long,
  size_longest,
  fits_short,
  fits_long,
  fits_longest,
  put_short,
  put_long,
  put_longest,
  fits_start,
  fits_content,
  put_content,
)
