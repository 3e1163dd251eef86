pub mod Interleave
pub mod Shares
pub mod Turns
