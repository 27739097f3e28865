pub mod LastValues
pub mod Launched
pub mod Ready
pub mod RunResults
pub mod TreeView
