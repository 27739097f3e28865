pub mod Endings
pub mod Entries
pub mod Variables
