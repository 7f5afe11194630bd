pub mod RowsAlone
