-- The board's definitions: the 26 entries, a single step, result and phase, what the entries answer, and words for boards to try.
pub mod Board
pub mod Step
pub mod Phase
pub mod Answers
pub mod Words
