pub mod Stores
pub mod Words
pub mod Checkpoint
