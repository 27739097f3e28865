pub mod Answers
pub mod Checker
pub mod Settings
pub mod Told
