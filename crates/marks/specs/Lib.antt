pub mod Accepted
pub mod Ways
