pub mod Volume
pub mod Calls
pub mod Found
pub mod Answers
