pub mod Falls
pub mod FirstBackward
