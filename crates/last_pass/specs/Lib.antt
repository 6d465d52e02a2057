pub mod LastPass
pub mod ByPlace
