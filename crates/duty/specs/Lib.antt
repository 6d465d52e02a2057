pub mod Duty
pub mod Calls
