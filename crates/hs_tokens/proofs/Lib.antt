pub mod Letters
pub mod Longest
pub mod Elements
pub mod Positions
pub mod Lexed
