pub mod Logging
pub mod Starting
