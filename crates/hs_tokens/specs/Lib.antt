pub mod Tokens
pub mod Lexing
pub mod Scanning
pub mod Kinds
pub mod FaultWords
