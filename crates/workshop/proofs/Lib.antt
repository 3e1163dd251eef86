pub mod Places
pub mod Sums
