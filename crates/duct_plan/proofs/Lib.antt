pub mod Planned
pub mod Visited
