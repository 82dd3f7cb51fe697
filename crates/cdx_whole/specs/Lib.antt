pub mod Fields
pub mod Owners
