pub mod AnyRange
