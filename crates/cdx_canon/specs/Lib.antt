pub mod Canon
pub mod Plain
pub mod Words
pub mod Answers
pub mod Sides
