pub mod Start
pub mod Log
pub mod Text
