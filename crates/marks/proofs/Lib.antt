-- What the functions' proofs cite.
mod WayLaws
