pub mod PlainCounts
