pub mod Days
pub mod Checking
