pub mod Images
pub mod Links
pub mod Lists
pub mod Ordered
pub mod Scans
pub mod Valid
