-- The refusals of the writers as numbers, and what a caller is told of a result.
use Rattle.std.specs.Prelude.{ℕ, Result, Ok, Err}
use Rattle.rules.specs.Numbers.{accepted, empty_list, not_a_name, result_too_long, buffer_too_short}
use Rattle.rules.specs.Writing.{refusal}
use Rattle.rules.specs.declared.Written.{Written}
use Rattle.writing.specs.declared.WriteRefusal.{WriteRefusal}
use Rattle.writing.specs.declared.WriteRefusal.TheVariants.{EmptyList, NotAName, ResultTooLong, BufferTooShort}

-- "an empty list (21), a text that isn't a name of its kind .. (22), a result over the SAN or records limit (23), and a buffer shorter
-- than the result (24)"
abbrev pub number_of : WriteRefusal → ℕ
number_of EmptyList = empty_list
number_of NotAName = not_a_name
number_of ResultTooLong = result_too_long
number_of BufferTooShort = buffer_too_short

-- ".. with length 0"
abbrev pub told : Result ℕ WriteRefusal → Written
told (Ok size) = record { answer = accepted; length = size }
told (Err r) = refusal (number_of r)
