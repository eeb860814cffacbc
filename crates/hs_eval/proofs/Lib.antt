pub mod Depths
pub mod CheckedOf
pub mod Piles
pub mod Resolved
