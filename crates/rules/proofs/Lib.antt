-- Theorems of plays and ends, each file by what it is about.
pub mod Dice
pub mod Plays
pub mod Lists
pub mod Two
pub mod Commute
pub mod Marks
pub mod Doubles
pub mod Mixed
pub mod Exact
pub mod Repeats
pub mod Bound
pub mod Accepted
pub mod Switched
pub mod NoEnds
pub mod Tried
