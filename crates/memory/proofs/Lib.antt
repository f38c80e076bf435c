pub mod Meaning
pub mod Renewed
pub mod Pieces
pub mod Counted
pub mod InUse
pub mod NumberSets
pub mod Registers
