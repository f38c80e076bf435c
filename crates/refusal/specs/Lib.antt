pub mod Meaning
pub mod Judging
