pub mod Commanded
pub mod Counts
pub mod Duplicates
pub mod Origins
