pub mod Answered
pub mod Line
pub mod Parsed
