-- Laws of putting text into lent memory, and of the text itself.
pub mod Writing
pub mod ToldTurns
pub mod CardLines
pub mod Unique
pub mod Tried
