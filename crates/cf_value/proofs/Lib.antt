pub mod Built
pub mod Terms
pub mod Shared
pub mod Closed
