pub mod Comparison
pub mod Parts
pub mod Found
