mod Cuts
mod Plains
mod Quotes
mod Rows
mod Places
