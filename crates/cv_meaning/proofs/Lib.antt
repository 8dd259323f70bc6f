pub mod Runs
pub mod MoreSteps
pub mod Bounds
pub mod Worked
pub mod Accesses
pub mod Induct
pub mod Terms
pub mod Looks
