-- The theorems that rest on a definition of specs/ which an edit changes: there the edit is refused for them.
pub mod Heads
pub mod HullMisses
pub mod WorkerLaws
