pub mod BackwardLaws
pub mod FallLaws
