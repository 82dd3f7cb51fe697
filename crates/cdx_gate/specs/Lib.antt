pub mod Lines
pub mod Gate
