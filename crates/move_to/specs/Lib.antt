pub mod MoveTo
