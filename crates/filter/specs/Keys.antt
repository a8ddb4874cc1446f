-- A table of keys: a text has a key, which texts that are the same without case share, and the keys of a SAN's dNSNames are noted in a
-- table of bits. A reference whose keys are not noted matches no dNSName.
use Rattle.std.specs.Prelude.{ℕ, ◌+◌, ◌-◌, ◌*◌, ◌/◌, ◌%◌, ◌^◌, Bool, cond, ◌&&◌, ◌||◌, List, [], ◌∷◌, length, get_or, drop, eqb, ltb}
use Rattle.std.proofs.Math.Seq.{slice}
use Rattle.std.specs.Int.Bits.{bit_or}
use Rattle.rules.specs.Bytes.{all, any, begins, after}
use Rattle.rules.specs.Names.{is, star, dot, where_given}
use Rattle.rules.specs.San.{GeneralName}
use Rattle.rules.specs.Matching.{tagged_text}
use Rattle.words.specs.Words.{value, folded}

-- how many keys there are, and how many bytes a table of a bit for each has
abbrev pub keys : ℕ
keys = 16384

abbrev pub table_size : ℕ
table_size = 2048

-- ---- the key of a text

-- a byte, without case
unfoldable pub byte_at : List ℕ → ℕ → ℕ
byte_at s i = bit_or (get_or s i 0) 32

-- eight bytes without case, as one number of four: one half added to the other
unfoldable pub halves : ℕ → ℕ
halves w = w % 0x100000000 + w / 0x100000000 % 0x100000000

unfoldable pub word_at : List ℕ → ℕ → ℕ
word_at s at = halves (value (folded (slice at (at + 8) s)))

-- what the key is made of: of a text of 16 bytes or more its first 16 and the first eight of its last 16, of a shorter one its first
-- eight and its last eight, of fewer than eight three bytes
unfoldable pub sum_of : List ℕ → ℕ
sum_of s =
    cond (ltb (length s) 2) 0
    (cond (ltb (length s) 8) (byte_at s 0 + byte_at s 1 * 0x100 + byte_at s (length s - 1) * 0x10000)
    (cond (ltb (length s) 16) (word_at s 0 + word_at s (length s - 8) * 3)
    (word_at s 0 + word_at s 8 * 3 + word_at s (length s - 16) * 5)))

-- a number spread over the keys by a factor near 2^32 divided by the golden ratio
unfoldable pub spread : ℕ → ℕ
spread n = n % 0x100000000 * 0x9E3779B1 / 0x100000 % keys

unfoldable pub key_of : List ℕ → ℕ
key_of s = spread (sum_of s)

-- ---- the table

-- the bit of a key is set
unfoldable pub has : List ℕ → ℕ → Bool
has table key = eqb (get_or table (key / 8) 0 / 2 ^ (key % 8) % 2) 1

-- the text by which a dNSName is noted: "`*` stands for exactly one whole label of the reference", so of a wildcard it is what stands
-- past `*.`
unfoldable pub noted_text : List ℕ → List ℕ
noted_text text = cond (begins (star ∷ dot ∷ []) text) (drop 2 text) text

-- a name that is no dNSName, or whose key is noted
unfoldable pub has_name : List ℕ → GeneralName → Bool
has_name table n = where_given (tagged_text 0x82 n) (λ text. has table (key_of (noted_text text)))

unfoldable pub has_all : List ℕ → List GeneralName → Bool
has_all table names = all (has_name table) names

-- whether a dNSName may match a reference's domain: one that is noted by the whole domain, or by what stands past its first dot
unfoldable pub may_match : List ℕ → List ℕ → Bool
may_match table domain = has table (key_of domain) || (any (is dot) domain && has table (key_of (after (is dot) domain)))
