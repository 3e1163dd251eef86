mod Decimals
mod Listing
mod Rows
mod Walks
mod Pairs
mod Sofar
