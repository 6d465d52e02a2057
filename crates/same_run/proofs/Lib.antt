pub mod Origins
pub mod Runs
