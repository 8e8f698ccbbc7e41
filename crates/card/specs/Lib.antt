-- Games by the rules of play; their cards as bytes; how a card is read; and what the card's entries answer.
pub mod Game
pub mod Card
pub mod Read
pub mod Answers
pub mod Replay
pub mod Records
