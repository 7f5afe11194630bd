-- The theorems that the paper asks for by name, and the laws that the marking code cites.
pub mod Agreement
pub mod Below
pub mod Chosen
pub mod Hull
pub mod Listing
pub mod MarkCounts
pub mod Ranges
pub mod RowLists
pub mod SpanLaws
pub mod Unique
pub mod UniqueCalls
pub mod Unordered
pub mod Windows
pub mod Worker
