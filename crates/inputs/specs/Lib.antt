-- The inputs' definitions: the values of a board by place, and what filling a slice and asking for one of them answer.
pub mod Inputs
pub mod Rows
pub mod Answers
