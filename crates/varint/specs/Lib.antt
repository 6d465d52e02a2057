pub mod Number
pub mod Place
