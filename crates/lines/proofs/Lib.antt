-- What the proofs of the functions cite, and how a line is put together.
pub mod AppendLaws
pub mod DigitsLaws
pub mod LineLaws
