pub mod Candidates
pub mod Distinct
pub mod Extending
pub mod FirstMatch
pub mod Kernel
pub mod Linked
pub mod View
