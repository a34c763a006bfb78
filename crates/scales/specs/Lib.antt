pub mod Meaning
pub mod Order
pub mod Place
pub mod Marks
pub mod Same
pub mod Counts
