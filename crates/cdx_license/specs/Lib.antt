pub mod Records
pub mod Parts
pub mod Whole
pub mod Stays
