pub mod Writing
pub mod Spelling
pub mod WrittenRows
pub mod Listed
pub mod Lone
pub mod Stays
pub mod WillWrite
