-- What the proofs of the functions cite, and what the definitions mean.
pub mod BehindLaws
pub mod DigitLaws
pub mod Examples
pub mod NanLaws
pub mod NumbersMeaning
pub mod WordLaws
