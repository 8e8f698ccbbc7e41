-- The number of an end, and the window that it is looked for in.
pub mod Number
pub mod Slots
