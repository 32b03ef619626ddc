-- What the public contract cites.
pub mod Jumps
-- What the contracts of private functions cite.
pub mod Syntax
pub mod Passing
