pub mod Bytes
pub mod Parts
pub mod Tokens
pub mod Given
