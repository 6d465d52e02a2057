pub mod Iterate
pub mod Same
pub mod Result
pub mod Lent
