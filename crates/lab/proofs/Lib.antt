pub mod Words
pub mod Digits
pub mod First
pub mod Positions
pub mod Tasks
pub mod Advance
pub mod FromCheckpoint
