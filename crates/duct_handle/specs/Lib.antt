pub mod Finished
pub mod HandleView
pub mod Obeyed
pub mod Started
pub mod Waited
pub mod Reads
pub mod ReadsText
