pub mod Cursors
pub mod Cuts
pub mod Feeding
pub mod Histories
pub mod Makers
pub mod Refusals
