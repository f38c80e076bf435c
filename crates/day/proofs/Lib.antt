pub mod Concluded
pub mod PartyKept
pub mod NoticeKept
pub mod Answered
pub mod Admitted
