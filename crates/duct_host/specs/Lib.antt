pub mod ChildView
pub mod Commands
pub mod Endings
pub mod Entries
pub mod Groups
pub mod Signals
pub mod Steps
pub mod Variables
