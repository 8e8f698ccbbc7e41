-- The words that every crate above shares, in which it says what a board, a key, a mask, a lent list and an answer are.
pub mod Signed
pub mod Twos
pub mod Sums
pub mod Bits
pub mod Masks
pub mod Lent
pub mod Answer
pub mod Refusals
