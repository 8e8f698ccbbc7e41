-- What the C interface leaves in lent memory.
pub mod Lent
pub mod LentCard
