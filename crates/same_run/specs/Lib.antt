pub mod SameRun
pub mod Found
