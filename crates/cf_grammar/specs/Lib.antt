pub mod Grammar
pub mod Refusing
pub mod Choosing
pub mod Texts
pub mod Productions
pub mod Walking
pub mod Laws
