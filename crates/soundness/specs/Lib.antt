pub mod Soundness
pub mod Found
