pub mod Meaning
pub mod Parts
pub mod Signs
pub mod Told
pub mod Laid
