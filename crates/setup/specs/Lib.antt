pub mod SetUp
pub mod LedBack
