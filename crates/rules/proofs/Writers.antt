-- The examples of request 4/13, and the smallest ones that tell its other sentences apart, computed.
use Prim.Native.Nat.{ℕ, ◌+◌}
use mathlib.Core.Bool.{true}
use mathlib.Core.List.{List, [], ◌∷◌, ◌++◌}
use lib.ListN.{length, replicate}
use Rattle.rules.specs.Bytes.{sum, cut, same, begins, before, after, ascii, part}
use Rattle.rules.specs.Names
use Rattle.rules.specs.Records
use Rattle.rules.specs.Der
use Rattle.rules.specs.San
use Rattle.rules.specs.Writing
use Rattle.rules.specs.Writing.{Writer, Request, request, san_writer, record_writer}
use Rattle.rules.proofs.Text.{text, hex}
use Rattle.rules.proofs.Test.{all_hold}
use Rattle.rules.proofs.Holds.{Example, written, tested, All, record_bytes}
use Rattle.rules.proofs.Certificates.{letters}

-- what is answered, the result's length, and the buffer afterwards
abbrev writes : {Name : Type 0} → Writer Name → Request → List ℕ → ℕ → ℕ → List ℕ → Example
writes W q old answer size after =
    let w = Writing.written_by W q (length old) in
    written (w.answer ∷ w.length ∷ Writing.buffer_by W q old) (answer ∷ size ∷ after)

-- a refusal: length 0, and the buffer of three bytes as it was
abbrev refuses : {Name : Type 0} → Writer Name → Request → ℕ → Example
refuses W q answer = writes W q (1 ∷ 2 ∷ 3 ∷ []) answer 0 (1 ∷ 2 ∷ 3 ∷ [])

-- one name
abbrev one : ℕ → List ℕ → Request
one kind t = request (kind ∷ []) (length t ∷ []) t

-- one record
abbrev of : ℕ → List ℕ → List ℕ → Request
of kind service domain = request (kind ∷ []) (length service ∷ length domain ∷ []) (service ++ domain)

-- so many URI records with the same text as scheme and as domain
abbrev many : ℕ → List ℕ → Request
many n t = request (replicate n 3) (replicate (n + n) (length t)) (Der.run (λ x. x) (replicate (n + n) t))

abbrev three : Request
three = request (1 ∷ 2 ∷ 3 ∷ []) (3 ∷ 6 ∷ 9 ∷ []) (text "a.b_m.b.csip://a.b")

abbrev three_written : List ℕ
three_written = hex "30 26 82 03 61 2E 62 A0 14 06 08 2B 06 01 05 05 07 08 07 A0 08 16 06 5F 6D 2E 62 2E 63 86 09 73 69 70 3A 2F 2F 61 2E 62"

-- a SAN of one SRVName whose text has so many bytes: how long it is, with no buffer to put it in
abbrev srv_name : ℕ → ℕ → Example
srv_name n size =
    written (length (Writing.result_of san_writer (one 2 (replicate n 0x61))) ∷ []) (size ∷ [])

abbrev san_values : List Example
san_values =
    writes san_writer three (replicate 42 0xEE) 0 40 (three_written ++ (0xEE ∷ 0xEE ∷ []))
    ∷ writes san_writer three (replicate 40 0xEE) 0 40 three_written
    ∷ writes san_writer three (replicate 39 0xEE) 24 0 (replicate 39 0xEE)
    ∷ writes san_writer (one 1 (text "a.b")) (replicate 6 0) 24 0 (replicate 6 0)
    ∷ writes san_writer (one 1 (text "a.b")) (replicate 7 0) 0 7 (hex "30 05 82 03 61 2E 62")
    ∷ writes san_writer (one 1 (text "b")) (replicate 5 0) 0 5 (hex "30 03 82 01 62")
    ∷ writes san_writer (one 1 (text "*.b.c")) (replicate 9 0) 0 9 (hex "30 07 82 05 2A 2E 62 2E 63")
    -- "a text that isn't a name of its kind"; case is kept
    ∷ writes san_writer (one 1 (text "A.b")) (replicate 7 0) 0 7 (hex "30 05 82 03 41 2E 62")
    ∷ refuses san_writer (one 1 (text "*.b")) 22
    ∷ refuses san_writer (one 1 (text "10.4.0.7")) 22
    ∷ refuses san_writer (one 1 (text "_m.b.c")) 22
    ∷ refuses san_writer (one 2 (text "a.b")) 22
    ∷ refuses san_writer (one 2 (text "_m")) 22
    ∷ refuses san_writer (one 2 (text "_m.7")) 22
    ∷ refuses san_writer (one 2 (text "_m-.b")) 22
    ∷ refuses san_writer (one 3 (text "a.b")) 22
    ∷ refuses san_writer (one 3 (text "sip:a.b")) 22
    ∷ refuses san_writer (one 1 []) 22
    -- "or has a byte above 127": these are URI-IDs
    ∷ tested (Names.uri_id (text "sip://a.b/" ++ hex "C3 A9")) true
    ∷ refuses san_writer (one 3 (text "sip://a.b/" ++ hex "C3 A9")) 22
    ∷ tested (Names.uri_id (text "sip://" ++ (hex "FF" ++ text "@a.b"))) true
    ∷ refuses san_writer (one 3 (text "sip://" ++ (hex "FF" ++ text "@a.b"))) 22
    -- "no kinds is the empty list, lists that disagree or another kind are 22"
    ∷ refuses san_writer (request [] (3 ∷ []) (text "a.b")) 21
    ∷ refuses san_writer (request [] [] []) 21
    ∷ refuses san_writer (request (1 ∷ []) (3 ∷ 0 ∷ []) (text "a.b")) 22
    ∷ refuses san_writer (request (1 ∷ []) (2 ∷ []) (text "a.b")) 22
    ∷ refuses san_writer (request (1 ∷ []) (1 ∷ []) (text "a.b")) 22
    ∷ refuses san_writer (request (1 ∷ 1 ∷ []) (18446744073709551615 ∷ 4 ∷ []) (text "a.b")) 22
    ∷ refuses san_writer (one 0 (text "a.b")) 22
    ∷ refuses san_writer (one 4 (text "a.b")) 22
    -- where the lengths of an SRVName's elements turn long: the outer A0, the inner A0, the text's own
    ∷ srv_name 113 132
    ∷ srv_name 114 134
    ∷ srv_name 125 145
    ∷ srv_name 126 147
    ∷ srv_name 127 148
    ∷ srv_name 128 150
    ∷ srv_name 317 343
    -- "a result over the SAN .. limit (23)": a URI of 16,376 bytes, and of one more
    ∷ refuses san_writer (one 3 (text "sip://a.b/" ++ replicate 16366 0x78)) 24
    ∷ refuses san_writer (one 3 (text "sip://a.b/" ++ replicate 16367 0x78)) 23
    ∷ []

abbrev record_values : List Example
record_values =
    -- "a result over the .. records limit (23)": the 17th record; records that are bad are refused before
    refuses record_writer (many 17 (text "b")) 22
    ∷ refuses record_writer (many 17 (text "a.b")) 23
    ∷ refuses record_writer (many 16 (text "a.b")) 24
    ∷ writes record_writer (of 2 (text "sip") (text "A.b")) (replicate 322 7) 0 320 (record_bytes 2 (text "sip") 60 (text "A.b") 250 ++ (7 ∷ 7 ∷ []))
    ∷ writes record_writer (of 4 [] (text "a.b")) (replicate 320 7) 0 320 (record_bytes 4 [] 63 (text "a.b") 250)
    ∷ writes record_writer (of 1 [] (text "a.b")) (replicate 319 7) 24 0 (replicate 319 7)
    -- "or that its reader refuses"
    ∷ refuses record_writer (of 1 [] (text "b")) 22
    ∷ refuses record_writer (of 1 [] (text "*.b")) 22
    ∷ refuses record_writer (of 1 [] (text "10.4.0.7")) 22
    ∷ refuses record_writer (of 1 (text "m") (text "a.b")) 22
    ∷ refuses record_writer (of 0 [] (text "a.b")) 22
    ∷ refuses record_writer (of 5 [] (text "a.b")) 22
    ∷ refuses record_writer (of 2 (letters 63) (text "a.b")) 22
    ∷ refuses record_writer (of 3 (letters 63) (text "a.b")) 24
    -- "a record whose fields can't hold its texts"
    ∷ refuses record_writer (of 3 (letters 64) (text "a.b")) 22
    ∷ refuses record_writer (of 1 [] (letters 254)) 22
    -- two lengths for each kind
    ∷ refuses record_writer (request [] (0 ∷ 3 ∷ []) (text "a.b")) 21
    ∷ refuses record_writer (request (1 ∷ []) (3 ∷ []) (text "a.b")) 22
    ∷ refuses record_writer (request (1 ∷ []) (0 ∷ 3 ∷ 0 ∷ []) (text "a.b")) 22
    ∷ refuses record_writer (request (1 ∷ []) (18446744073709551615 ∷ 4 ∷ []) (text "a.b")) 22
    ∷ []

pub san_values_lem : All san_values
unfolding same begins before after ascii Names.letter Names.digit Names.letter_digit_hyphen Names.ldh Names.label Names.longer Names.labels Names.last_of Names.domain Names.two_labels Names.wildcard Names.dns_id Names.service Names.service_of Names.domain_of Names.srv_id Names.scheme_byte Names.scheme Names.scheme_of Names.authority_end Names.authority_of Names.host_and_port Names.host_of Names.port_of Names.uri_id Der.length_bytes Der.element Der.run San.tag_of San.content_of San.write_name cut sum Writing.agree Writing.asked Writing.good_list Writing.result_of Writing.fitted Writing.written_by Writing.buffer_by Writing.identifiers Writing.id_of_kind Writing.good_identifier Writing.name_for
san_values_lem = all_hold san_values tt

pub record_values_lem : All record_values
unfolding same part Names.letter Names.digit Names.letter_digit_hyphen Names.ldh Names.label Names.longer Names.labels Names.last_of Names.domain Names.two_labels Names.service Names.scheme_byte Names.scheme Records.reference_of Records.filled Records.good_service Records.good_reference Records.good_record Der.run cut sum Writing.agree Writing.asked Writing.good_list Writing.result_of Writing.fitted Writing.written_by Writing.buffer_by Writing.references Writing.field Writing.record_for Writing.fields_hold Writing.good_to_write
record_values_lem = all_hold record_values tt
