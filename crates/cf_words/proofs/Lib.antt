pub mod Decisions
pub mod Named
pub mod Onward
pub mod Stops
pub mod Unique
pub mod Total
pub mod Ranges
