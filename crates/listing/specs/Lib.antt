-- What a listing answers and writes, before it writes.
pub mod Plans
