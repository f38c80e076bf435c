pub mod Packed
pub mod Undone
pub mod Single
pub mod Changed
pub mod Mirrored
