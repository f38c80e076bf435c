pub mod Days
pub mod Opening
pub mod Outcome
pub mod Entering
pub mod Noticing
pub mod Answering
