pub mod Cents
pub mod Charges
pub mod Credit
