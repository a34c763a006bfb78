pub mod Exact
pub mod Pattern
pub mod Division
