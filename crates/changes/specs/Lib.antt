pub mod Meaning
pub mod Ways
pub mod General
pub mod Asked
