pub mod Additions
pub mod Dropped
pub mod Blocks
