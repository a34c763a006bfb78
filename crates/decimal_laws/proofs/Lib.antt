pub mod Distance
pub mod Unique
pub mod Nearer
pub mod Trip
pub mod Cases
pub mod Wrong
pub mod UntakenWrong
