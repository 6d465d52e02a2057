pub mod Inverse
pub mod Moved
pub mod Words
