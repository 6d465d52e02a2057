pub mod Words
pub mod TestLoad
