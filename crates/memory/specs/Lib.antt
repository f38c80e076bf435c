pub mod Held
pub mod Limits
pub mod NumberSets
pub mod Order
pub mod Ready
pub mod Pending
pub mod Rows
pub mod With
