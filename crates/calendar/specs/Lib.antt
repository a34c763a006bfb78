pub mod Meaning
pub mod Same
pub mod Gregorian
pub mod Walk
pub mod Days
pub mod Dates
pub mod Told
pub mod Formula
