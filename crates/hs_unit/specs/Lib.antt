pub mod Courses
pub mod Samples
