-- Laws of the key, each file by what it is about.
pub mod Runs
pub mod Counts
pub mod Sides
pub mod Boards
pub mod Answers
pub mod ReadBack
pub mod AcceptedKeys
pub mod Unique
pub mod Tried
