pub mod Classes
pub mod Index
pub mod Failures
pub mod Definitions
pub mod Slots
pub mod RuleFaults
pub mod Signatures
pub mod Numbering
