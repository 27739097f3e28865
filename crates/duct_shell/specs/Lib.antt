pub mod Calls
pub mod Converted
pub mod Jobs
pub mod Wraps
