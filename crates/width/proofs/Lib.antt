-- What the functions' proofs cite.
mod Product
mod Tested
