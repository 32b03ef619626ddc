pub mod Sums
pub mod Lowering
pub mod Sources
pub mod Built
pub mod Cores
pub mod Ends
pub mod Executed
pub mod Machines
