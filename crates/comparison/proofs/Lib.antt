pub mod Places
pub mod Differences
pub mod Answers
pub mod SameEntry
