pub mod Records
pub mod Slots
