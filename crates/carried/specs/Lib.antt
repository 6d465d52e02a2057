pub mod Carried
pub mod Steps
pub mod Runs
