pub mod Floats
mod WithoutFloats
pub mod Known
pub mod Lists
pub mod Served
