-- What an example of document 01 says about the rules.
use Prim.Native.Nat.{ℕ, zero, suc}
use mathlib.Core.Path.{◌≡◌}
use mathlib.Core.Bool.{Bool, true, false}
use mathlib.Core.List.{List, [], ◌∷◌, ◌++◌, map}
use lib.ListN.{length, replicate}
use lib.Dec.{T}
use Rattle.rules.specs.Names.{restriction, srv_id, in_subtree, dns_id, dns_matches}
use Rattle.rules.specs.Records.{Reference}
use Rattle.rules.specs.Der.{Member}
use Rattle.rules.specs.San.{GeneralName}
use Rattle.rules.specs.Subject.{Attribute}
use Rattle.rules.specs.Seen.{Seen, listed, Input, san_input, subject_input, constraints_input, Sees, together, seen_records}
use Rattle.rules.specs.Verdict.{numbers, verdict_of}
use Rattle.rules.specs.Listing.{listed_of, table_after}
use Rattle.rules.specs.declared.Row.{Row}
use Rattle.rules.specs.declared.Listed.{Listed}
use Rattle.rules.specs.declared.Verdict.{Verdict}

-- a row's four numbers
abbrev pub row : ℕ → ℕ → ℕ → ℕ → Row
row k s l g = record { kind = k; start = s; length = l; group = g }

-- a whole certificate: its strings, with the constraints of each issuer, the lists that the grammar writes as them, our records, and the
-- verdict's numbers
pub record Certificate : Type 0 where
  pub san : List ℕ
  pub san_names : List GeneralName
  pub subject : List ℕ
  pub subject_names : List (Member Attribute)
  pub constraints : List (List ℕ)
  pub constraints_names : List (List (Member GeneralName))
  pub references : List ℕ
  pub numbers : Verdict

-- a certificate string: its bytes, the list that the grammar writes as them, and its rows
pub record Rows (Name : Type 0) : Type 0 where
  pub bytes : List ℕ
  pub names : List Name
  pub rows : List Row

-- a listing: the string's own refusal, the rows seen of it, the table lent, and what is answered and left in the table
pub record Listing : Type 0 where
  pub refusal : ℕ
  pub seen : Seen Row
  pub lent : List Row
  pub answered : Listed
  pub table : List Row

pub data Example : Type 0 where
  -- an SRVName lies in a restriction, or does not
  subtree : List ℕ → List ℕ → Bool → Example
  -- a dNSName matches the domain of a DNS reference, or does not
  dns_name : List ℕ → List ℕ → Bool → Example
  -- a text is no DNS-ID
  no_dns_id : List ℕ → Example
  -- a test of the rules passes, or does not
  tested : Bool → Bool → Example
  -- bytes are written so
  written : List ℕ → List ℕ → Example
  -- a verdict, through the grammar
  verdict : Certificate → Example
  -- a refusal, by what is seen of the records, the SAN, the subject and the constraints of all issuers
  refused : Seen Reference → Seen GeneralName → Seen (Member Attribute) → Seen (List (Member GeneralName)) → ℕ → Example
  -- the rows of a string, through the grammar
  san_rows : Rows GeneralName → Example
  subject_rows : Rows (Member Attribute) → Example
  constraints_rows : Rows (Member GeneralName) → Example
  -- a listing into a lent table
  listing : Listing → Example

-- the grammar writes the list as the bytes, and these are its rows
abbrev pub HasRows : {Name : Type 0} → Input Name → Rows Name → Type 0
HasRows I r = Sees I r.bytes (listed r.names) × (I.grammar.rows r.names ≡ r.rows)

-- the grammar writes these lists as the constraints of the issuers, one each
abbrev pub EachListed : List (List ℕ) → List (List (Member GeneralName)) → Type 0
EachListed [] [] = Unit
EachListed [] (l ∷ ls) = ⊥
EachListed (b ∷ bs) [] = ⊥
EachListed (b ∷ bs) (l ∷ ls) = Sees constraints_input b (listed l) × EachListed bs ls

-- the verdict on a certificate, by its lists
abbrev pub certificate_verdict : Certificate → Verdict
certificate_verdict c = verdict_of (seen_records c.references) (listed c.san_names) (listed c.subject_names) (together (map listed c.constraints_names))

abbrev pub Holds : Example → Type 0
Holds (subtree restricted name inside) = T (restriction restricted) × T (srv_id name) × (in_subtree restricted name ≡ inside)
Holds (dns_name presented reference matched) = dns_matches reference presented ≡ matched
Holds (no_dns_id presented) = dns_id presented ≡ false
Holds (tested test passed) = test ≡ passed
Holds (written bytes shown) = bytes ≡ shown
Holds (verdict c) =
    Sees san_input c.san (listed c.san_names)
    × Sees subject_input c.subject (listed c.subject_names)
    × EachListed c.constraints c.constraints_names
    × (certificate_verdict c ≡ c.numbers)
Holds (refused references san subject constraints answer) = verdict_of references san subject constraints ≡ numbers answer 0 0 0 0 0
Holds (san_rows r) = HasRows san_input r
Holds (subject_rows r) = HasRows subject_input r
Holds (constraints_rows r) = HasRows constraints_input r
Holds (listing l) =
    (listed_of l.refusal l.seen (length l.lent) ≡ l.answered) × (table_after l.seen l.lent ≡ l.table)

-- every example of a table holds
abbrev pub All : List Example → Type 0
All [] = Unit
All (e ∷ es) = Holds e × All es

-- ---- what the examples are made of

abbrev pub keep : Bool → ℕ → List ℕ → List ℕ
keep true b l = b ∷ l
keep false b l = l

-- of the n bytes from b on, those that pass a test
abbrev pub passing_from : (ℕ → Bool) → ℕ → ℕ → List ℕ
passing_from p zero b = []
passing_from p (suc n) b = keep (p b) b (passing_from p n (suc b))

-- of all bytes
abbrev pub passing : (ℕ → Bool) → List ℕ
passing p = passing_from p 256 0

-- the bytes of one record: kind, service and domain, each field filled with zeros to its end
abbrev pub record_bytes : ℕ → List ℕ → ℕ → List ℕ → ℕ → List ℕ
record_bytes kind service service_fill domain domain_fill =
    kind ∷ 0 ∷ length service ∷ length domain ∷ ((service ++ replicate service_fill 0) ++ (domain ++ replicate domain_fill 0))
