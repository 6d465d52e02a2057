pub mod Conditions
pub mod Beginnings
pub mod Undo
pub mod Shows
