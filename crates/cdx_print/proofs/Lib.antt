pub mod Behind
pub mod LongTexts
pub mod Printing
