-- The text of a card, and what putting a piece of text into lent memory does.
pub mod Text
pub mod Wrote
pub mod Turns
