pub mod Lines
pub mod Run
pub mod Calls
pub mod Computed
pub mod Each
pub mod First
pub mod Wrong
