-- The key's definitions, and what reading one side of it answers.
pub mod Key
pub mod Side
