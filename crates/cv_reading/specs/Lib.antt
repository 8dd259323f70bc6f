pub mod Reading
pub mod Phrase
pub mod Fault
pub mod Lists
pub mod Deep
pub mod Levels
