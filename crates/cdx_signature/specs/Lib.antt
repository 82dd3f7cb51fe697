pub mod Signatures
pub mod Records
pub mod Parts
pub mod Stays
