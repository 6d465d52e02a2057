pub mod Area
pub mod Step
