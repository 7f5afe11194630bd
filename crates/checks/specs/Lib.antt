-- What the checks say in the paper's terms.
pub mod Said
