pub mod References
pub mod Written
