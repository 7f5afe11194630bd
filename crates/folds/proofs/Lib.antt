pub mod BoundsLaws
pub mod FoundLaws
