-- The definitions that the contracts cite, and their laws.
pub mod Meaning
pub mod Passes
pub mod Same
pub mod Packet
pub mod Turns
pub mod Filling
pub mod Totals
pub mod Alike
pub mod Seconds
pub mod Ways
