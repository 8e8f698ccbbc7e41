-- Laws of the board, each file by what it is about.
pub mod Tried
pub mod Boards
pub mod Steps
pub mod StepCode
pub mod SideSwitch
pub mod Phases
pub mod Answering
pub mod Unique
