pub mod Functions
pub mod ByCipher
