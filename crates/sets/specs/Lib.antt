-- What the workers of this crate are handed and what they find. What a caller sees is said by crate paper.
pub mod Work
