pub mod Cells
pub mod Grid
pub mod Lines
pub mod Told
pub mod Words
