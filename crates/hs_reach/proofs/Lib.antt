pub mod Paths
pub mod Orders
pub mod Searches
pub mod Ranges
pub mod Reversals
pub mod Marks
pub mod Targets
