pub mod GuardView
pub mod Held
pub mod Policies
pub mod Rules
pub mod Traces
pub mod Under
