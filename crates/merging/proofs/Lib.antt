mod Chaining
mod Interleaving
