pub mod Product
pub mod Value
pub mod Fields
pub mod Ways
