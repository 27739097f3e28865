pub mod Hidden
pub mod Line
pub mod Place
pub mod Quote
pub mod ShellText
pub mod Split
pub mod Variables
