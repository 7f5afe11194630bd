-- What the functions' proofs cite.
mod JoinLaws
mod RunLaws
