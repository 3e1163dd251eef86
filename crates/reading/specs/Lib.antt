pub mod Columns
pub mod Numbers
pub mod Named
pub mod Tables
pub mod Fields
pub mod Left
pub mod Books
pub mod Parts
