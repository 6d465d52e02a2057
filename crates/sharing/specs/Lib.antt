pub mod Shares
pub mod Calls
pub mod Outcomes
pub mod Answers
