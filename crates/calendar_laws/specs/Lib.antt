pub mod Computed
pub mod Undo
pub mod Order
pub mod Firsts
pub mod Wrong
