pub mod Expansion
pub mod Origin
pub mod Window
