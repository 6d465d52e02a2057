pub mod Pairs
pub mod Filled
pub mod PairByPair
pub mod Strings
pub mod Order
pub mod Tables
pub mod Among
