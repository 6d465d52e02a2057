pub mod Expansion
pub mod Unexpansion
pub mod Window
pub mod Run
pub mod Pair
