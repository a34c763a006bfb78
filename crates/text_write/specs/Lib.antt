pub mod Meaning
pub mod Stage
pub mod Columns
pub mod Image
pub mod Writes
