-- What the functions' proofs cite.
mod RowLaws
