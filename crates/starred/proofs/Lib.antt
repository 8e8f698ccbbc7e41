-- The starred boards: the test of each, computed, and the theorem over all of them.
pub mod Boards
pub mod Starred
