pub mod Formed
pub mod Takes
