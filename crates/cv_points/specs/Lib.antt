pub mod Holders
pub mod Closed
pub mod Walks
pub mod Missing
pub mod Least
pub mod Merge
pub mod Growing
pub mod Cursors
