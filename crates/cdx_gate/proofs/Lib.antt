pub mod LineLaws
mod LineRows
pub mod Served
pub mod Owed
