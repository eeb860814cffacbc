pub mod Form
pub mod PathText
