pub mod Marked
pub mod Wrong
