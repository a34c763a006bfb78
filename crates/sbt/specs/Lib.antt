pub mod Meaning
pub mod Places
pub mod Accepted
pub mod Found
