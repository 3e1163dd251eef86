pub mod Counting
pub mod Digits
pub mod Escapes
pub mod Posting
pub mod Stating
