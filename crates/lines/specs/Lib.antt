pub mod Meaning
pub mod Stage
pub mod Told
pub mod Lines
pub mod Kept
pub mod Dates
pub mod Same
