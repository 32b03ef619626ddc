pub mod Pieces
pub mod Names
pub mod Text
pub mod Lines
pub mod Layout
pub mod Tables
pub mod Laws
