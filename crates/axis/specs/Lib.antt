pub mod Meaning
pub mod Diff
pub mod Shift
pub mod Axis
pub mod Order
pub mod Signed
