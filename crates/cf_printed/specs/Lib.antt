pub mod Scoped
pub mod Printed
pub mod Plain
pub mod Laws
