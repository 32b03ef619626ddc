mod Rows
pub mod Depths
pub mod Marked
pub mod Successors
pub mod Steps
pub mod Separated
pub mod Grouped
pub mod Branched
pub mod Emitted
pub mod Named
pub mod Spelled
pub mod Declared
pub mod Written
