-- What the contracts of the crate cite: the tables of rolls, and the answers.
pub mod Rolls
pub mod Dice
