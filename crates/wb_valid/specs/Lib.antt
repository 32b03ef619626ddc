-- What the public contract cites.
pub mod Answers
-- What the contracts of private functions cite.
pub mod Syntax
pub mod Operands
pub mod Effects
pub mod Checking
pub mod Locals
pub mod Scans
-- What the laws say.
pub mod Laws
