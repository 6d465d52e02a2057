pub mod Words
pub mod Decimal
pub mod Tasks
pub mod FromCheckpoint
