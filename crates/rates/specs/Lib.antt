pub mod Rates
pub mod Table
pub mod Calls
pub mod Found
