pub mod Bank
pub mod Strange
pub mod Hosts
