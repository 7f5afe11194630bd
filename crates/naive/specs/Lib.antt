pub mod NaiveIn
