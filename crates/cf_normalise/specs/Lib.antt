pub mod Iterated
