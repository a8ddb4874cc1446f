-- Reading: readers of the three certificate strings as functions, and that each string has one reading.
-- The theorem is in proofs/OneReading.antt and proofs/Views.antt; the other files lead to it.
pub mod Reader
pub mod Strings
pub mod Answers
pub mod Ends
pub mod Codec
pub mod Groups
pub mod Codecs
pub mod OneReading
pub mod Views
pub mod Calls
pub mod Laid
pub mod Written
