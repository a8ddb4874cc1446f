-- The numbers that the kiosk sees, each named once.
use Rattle.std.specs.Prelude.{ℕ, cond, eqb, Result, Ok, Err}
use Rattle.rules.specs.declared.Refusal.{Refusal}
use Rattle.rules.specs.declared.Refusal.TheVariants.{InputTooLong, RecordsUnreadable, SanUnreadable, SubjectUnreadable, ConstraintsUnreadable}
use Rattle.rules.specs.declared.Kind.{Kind}
use Rattle.rules.specs.declared.Kind.TheVariants.{Dns, Srv, Uri, Cn}
use Rattle.rules.specs.declared.UnknownKind.{UnknownKind}

-- "A verdict is five numbers: answer, reference index, presented index, start, length", and since 6/13 the issuer's index. The answers:
abbrev pub match : ℕ
match = 0

abbrev pub mismatch : ℕ
mismatch = 1

-- an SRVName or a dNSName breaks the constraints of an issuer
abbrev pub constraints_broken : ℕ
constraints_broken = 2

abbrev pub san_unreadable : ℕ
san_unreadable = 3

abbrev pub subject_unreadable : ℕ
subject_unreadable = 4

abbrev pub constraints_unreadable : ℕ
constraints_unreadable = 5

abbrev pub records_unreadable : ℕ
records_unreadable = 6

abbrev pub input_too_long : ℕ
input_too_long = 7

-- the answer of each refusal
abbrev pub answer_of : Refusal → ℕ
answer_of InputTooLong = input_too_long
answer_of RecordsUnreadable = records_unreadable
answer_of SanUnreadable = san_unreadable
answer_of SubjectUnreadable = subject_unreadable
answer_of ConstraintsUnreadable = constraints_unreadable

-- the 0 of the listing, of the record reader and of the writers
abbrev pub accepted : ℕ
accepted = 0

-- listing only
abbrev pub table_too_short : ℕ
table_too_short = 8

-- 4/13: "an empty list (21)", "a text that isn't a name of its kind .. (22)", "a result over the .. limit (23)", "a buffer shorter
-- than the result (24)"
abbrev pub empty_list : ℕ
empty_list = 21

abbrev pub not_a_name : ℕ
not_a_name = 22

abbrev pub result_too_long : ℕ
result_too_long = 23

abbrev pub buffer_too_short : ℕ
buffer_too_short = 24

-- "Longest inputs, in bytes: SAN 16,384; subject 4,096; constraints 16,384; references 5,120. One byte more is answer 7."
abbrev pub san_limit : ℕ
san_limit = 16384

abbrev pub subject_limit : ℕ
subject_limit = 4096

abbrev pub constraints_limit : ℕ
constraints_limit = 16384

-- 6/13: "Take 0 to 8 constraint strings"; "each keeps its own length limit"
abbrev pub most_issuers : ℕ
most_issuers = 8

abbrev pub records_limit : ℕ
records_limit = 5120

-- "Records of one fixed size, 320 bytes"
abbrev pub record_size : ℕ
record_size = 320

-- "Byte 2 service length, byte 3 domain length. Bytes 4 to 66 service, 67 to 319 domain"
abbrev pub service_length_at : ℕ
service_length_at = 2

abbrev pub domain_length_at : ℕ
domain_length_at = 3

abbrev pub service_at : ℕ
service_at = 4

abbrev pub service_size : ℕ
service_size = 63

abbrev pub domain_at : ℕ
domain_at = 67

abbrev pub domain_size : ℕ
domain_size = 253

-- "Byte 0 kind: 1 DNS, 2 SRV, 3 URI, 4 CN."
abbrev pub dns_kind : ℕ
dns_kind = 1

abbrev pub srv_kind : ℕ
srv_kind = 2

abbrev pub uri_kind : ℕ
uri_kind = 3

abbrev pub cn_kind : ℕ
cn_kind = 4

abbrev pub kind_number : Kind → ℕ
kind_number Dns = dns_kind
kind_number Srv = srv_kind
kind_number Uri = uri_kind
kind_number Cn = cn_kind

-- the kind that a number is of, if it is one's
abbrev pub kind_of : ℕ → Result Kind UnknownKind
kind_of n =
    cond (eqb n dns_kind) (Ok Dns)
    (cond (eqb n srv_kind) (Ok Srv) (cond (eqb n uri_kind) (Ok Uri) (cond (eqb n cn_kind) (Ok Cn) (Err (record { 0 = n })))))
