pub mod Aligned
pub mod Collects
