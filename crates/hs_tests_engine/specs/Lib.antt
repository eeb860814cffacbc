pub mod Varied
