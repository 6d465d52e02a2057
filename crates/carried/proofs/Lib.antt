pub mod Five
pub mod Steps
pub mod Arms
