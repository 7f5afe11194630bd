-- What bytes spell. Nothing here knows of splits.
pub mod Numbers
