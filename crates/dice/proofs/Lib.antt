-- Laws that belong to no one function.
pub mod Pairs
pub mod TwoDice
pub mod Bytes
pub mod Unique
