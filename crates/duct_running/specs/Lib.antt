pub mod Answered
pub mod RunningInvariant
pub mod NumbersView
pub mod Ordered
pub mod Polled
pub mod Stored
pub mod Allowed
