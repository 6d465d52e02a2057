pub mod Head
pub mod Calls
pub mod Outcomes
pub mod Answers
