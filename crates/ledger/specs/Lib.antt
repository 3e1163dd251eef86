pub mod Accounts
pub mod Billed
pub mod Files
pub mod Written
