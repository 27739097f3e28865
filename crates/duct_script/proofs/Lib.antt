pub mod Balance
pub mod Bytes
pub mod Changes
pub mod Orders
pub mod Paths
pub mod Said
pub mod Threads
