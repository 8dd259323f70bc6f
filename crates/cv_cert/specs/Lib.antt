pub mod Certificate
pub mod Text
pub mod Wrong
pub mod Reading
pub mod Tokens
pub mod Lines
pub mod Writing
pub mod Views
