pub mod Clones
pub mod Copying
pub mod Entries
pub mod Leading
pub mod NameOrder
pub mod Texts
pub mod Threads
pub mod Variables
