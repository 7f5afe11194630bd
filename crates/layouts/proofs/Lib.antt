-- What the functions' proofs cite, and what callers by split number do.
mod LayoutLaws
pub mod Numbered
