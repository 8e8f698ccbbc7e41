-- Laws of the number of an end: places in a list, what a window's slots hold and tell, tried boards, and that the promise leaves one answer.
pub mod Place
pub mod Slots
pub mod Search
pub mod Tried
pub mod Unique
