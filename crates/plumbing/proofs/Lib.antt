pub mod Cuts
pub mod Feeding
