pub mod Meaning
pub mod Stage
pub mod Digits
pub mod Months
pub mod Parse
pub mod Ways
pub mod In
