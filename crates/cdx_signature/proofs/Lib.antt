pub mod Algorithms
pub mod Signed
pub mod Signatures
pub mod Written
