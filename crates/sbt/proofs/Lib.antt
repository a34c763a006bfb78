pub mod Reckoned
pub mod Own
