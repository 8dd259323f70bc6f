pub mod Integer
pub mod Shown
pub mod Accepted
