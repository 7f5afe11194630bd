-- What the proofs of the functions cite, and what the definitions mean.
pub mod Examples
pub mod FieldLaws
pub mod FindLaws
pub mod PartsMeaning
