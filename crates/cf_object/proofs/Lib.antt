pub mod EndedStays
pub mod Moved
mod Examples
