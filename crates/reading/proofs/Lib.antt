-- The laws of reading that rest on the definitions of specs/. The theorem is in OneReading.antt and Views.antt; the other files lead to it.
pub mod Element
pub mod Codec
pub mod Runs
pub mod Codecs
pub mod OneReading
pub mod Views
pub mod Laid
