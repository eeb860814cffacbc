pub mod Ending
pub mod ReportText
pub mod Served
pub mod Statuses
pub mod Words
