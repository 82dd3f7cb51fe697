pub mod Gives
pub mod ByRows
pub mod KeptRows
pub mod SeenOf
pub mod Spellings
pub mod Stays
pub mod Groups
pub mod InOrder
