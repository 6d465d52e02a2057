pub mod Most
pub mod Sums
