pub mod Reading
pub mod Rows
pub mod Nest
pub mod Sections
pub mod Laws
