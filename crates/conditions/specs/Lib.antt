pub mod Limit
pub mod Conditions
pub mod Checks
