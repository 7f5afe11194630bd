-- What the proofs of several functions use.
pub mod TableLaws
pub mod HandedLaws
pub mod NumberingLaws
pub mod PathLaws
pub mod SplitLaws
pub mod NextLaws
