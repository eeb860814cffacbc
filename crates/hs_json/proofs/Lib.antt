pub mod Sound
pub mod Floats
pub mod Lines
