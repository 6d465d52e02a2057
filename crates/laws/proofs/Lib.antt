pub mod Iterate
pub mod Same
pub mod Lists
pub mod Loops
pub mod Results
pub mod Stores
pub mod Turns
