pub mod Environments
pub mod Finished
pub mod Launching
pub mod Starting
