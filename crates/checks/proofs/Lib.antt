-- Laws of chains of checks, and what a chain that is clear shows.
pub mod ChainLaws
pub mod ReadyLaws
