-- What the contracts of this crate cite.
pub mod Shortest
pub mod Appended
pub mod Encodable
pub mod Laws
