-- The definitions and laws on lists and numbers that know nothing of splits.
pub mod AnyLaws
pub mod Base
pub mod CountLaws
pub mod FirstLaws
pub mod IntegerLaws
pub mod OverLaws
pub mod SearchLaws
pub mod SignedLaws
pub mod StoreLaws
pub mod TabLaws
