pub mod Completions
pub mod InNumber
pub mod InVolume
pub mod Places
pub mod Answers
pub mod RatioThird
pub mod CutEnds
