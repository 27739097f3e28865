pub mod Characters
pub mod Hiding
pub mod RoundTrip
