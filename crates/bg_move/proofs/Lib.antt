-- Laws of the steps behind an end, each file by what it is about.
pub mod Tried
pub mod Losses
pub mod Places
pub mod Doublets
pub mod DoubleRecovered
pub mod MixedRecovered
pub mod Recovery
pub mod Refusals
pub mod Choices
pub mod Answering
pub mod Rows
pub mod Unique
