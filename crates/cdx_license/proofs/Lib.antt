pub mod Licensed
pub mod Identifiers
pub mod Written
