pub mod Meaning
pub mod Ways
pub mod Known
