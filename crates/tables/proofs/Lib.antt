pub mod Places
pub mod Kept
pub mod Change
pub mod Inverse
pub mod Turns
pub mod Words
pub mod Masks
