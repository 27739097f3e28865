pub mod EntryForm
pub mod Executable
pub mod Pool
pub mod Transfer
pub mod Word
pub mod WorkerView
