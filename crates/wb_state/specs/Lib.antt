-- What the public contracts cite.
pub mod Words
pub mod Stack
pub mod Frames
pub mod Bytes
