-- What the generator promises: ends as bytes in lent memory, the masks that it keeps, checkers that enter, and what its entries answer.
pub mod Bytes
pub mod Order
pub mod Points
pub mod Seconds
pub mod Entering
pub mod Answers
