pub mod Intersperse
pub mod Seams
