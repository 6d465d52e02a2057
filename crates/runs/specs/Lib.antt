pub mod Run
pub mod Change
