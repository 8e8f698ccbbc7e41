-- Laws, each file by what it is about: tests, signed parts, sums, two's complement, the bits of numbers, of bytes and of fields, masks,
-- records in lent memory, and refusals.
pub mod Tests
pub mod Signed
pub mod Sums
pub mod Twos
pub mod Digits
pub mod Bits
pub mod Fields
pub mod Masks
pub mod Packs
pub mod Lent
pub mod Refusals
pub mod Tried
