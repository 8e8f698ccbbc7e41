-- The steps behind an end: which they are, and what recovery answers.
pub mod Steps
pub mod Answers
