pub mod Numbers
pub mod Fresh
pub mod Digits
pub mod Back
pub mod Computed
pub mod Wrong
