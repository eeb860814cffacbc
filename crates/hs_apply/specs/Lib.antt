pub mod Additions
pub mod Blocks
