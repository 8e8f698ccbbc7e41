-- Laws of the generator, each file by what it is about: ends as bytes, loops that pass ends, masks and the origins that they hold, a
-- double's levels, a mixed roll's halves, entering, and what the entries answer.
pub mod Images
pub mod Orders
pub mod Passing
pub mod PassingSteps
pub mod BoardMasks
pub mod OffMasks
pub mod StepMasks
pub mod Walks
pub mod Origins
pub mod Doubling
pub mod Seconds
pub mod Halves
pub mod Entering
pub mod Entries
pub mod Pairs
pub mod Unique
