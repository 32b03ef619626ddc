pub mod Obj
pub mod Run
pub mod Jumps
pub mod Machine
pub mod Program
pub mod Moves
pub mod Laws
