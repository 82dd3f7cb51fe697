pub mod Starts
pub mod Steps
pub mod Stands
pub mod Pieces
pub mod Readers
pub mod Documents
pub mod Gathered
pub mod Sources
