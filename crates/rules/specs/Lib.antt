-- The rules of a turn: plays and legal ends; apart from them, the list of ends in its order, with its repeats left out by rule too.
pub mod Plays
pub mod Ends
pub mod Omitted
