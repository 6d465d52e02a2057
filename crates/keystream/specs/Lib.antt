pub mod Keystream
pub mod Stores
