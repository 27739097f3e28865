pub mod Alike
pub mod Opened
pub mod Streams
pub mod Surroundings
