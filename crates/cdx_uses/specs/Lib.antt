pub mod Uses
pub mod Buffers
