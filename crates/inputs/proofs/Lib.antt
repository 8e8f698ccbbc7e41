-- Laws of the inputs, each file by what it is about.
pub mod Floats
pub mod Own
pub mod Fours
pub mod Stores
pub mod Exact
pub mod Answers
pub mod Places
pub mod Unique
pub mod Tried
