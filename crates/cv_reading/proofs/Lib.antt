pub mod Laws
pub mod Lists
pub mod Each
pub mod Deep
pub mod Joined
