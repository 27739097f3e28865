pub mod ChildView
pub mod Exits
pub mod Told
