-- What the laws say.
pub mod Holes
pub mod Normal
pub mod Laws
