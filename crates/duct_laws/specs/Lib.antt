pub mod Laws
pub mod Redirected
