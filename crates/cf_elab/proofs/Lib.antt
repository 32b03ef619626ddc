pub mod Places
pub mod Tables
pub mod FromEnd
pub mod Variables
pub mod Fronts
pub mod Loops
pub mod Declared
