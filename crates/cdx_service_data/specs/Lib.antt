pub mod Entries
pub mod Records
pub mod Parts
pub mod Stays
pub mod Whole
