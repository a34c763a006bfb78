-- The definitions that the contracts cite, and their laws.
pub mod Meaning
pub mod Field
pub mod Place
pub mod Parts
