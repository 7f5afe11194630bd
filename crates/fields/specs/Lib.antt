-- The parts of a text. Nothing here knows of splits.
pub mod Parts
