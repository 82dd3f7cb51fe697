pub mod Floats
pub mod Without
