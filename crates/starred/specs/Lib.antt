-- What is told of the starred boards.
pub mod Cases
