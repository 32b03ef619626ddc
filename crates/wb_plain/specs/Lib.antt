-- What the public contract cites.
pub mod Effects
pub mod Follows
pub mod Syntax
pub mod Laws
-- What the contracts of private functions cite.
pub mod Rows
