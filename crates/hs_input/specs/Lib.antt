pub mod Input
pub mod Lines
pub mod Refusing
pub mod Sessions
