pub mod Childless
pub mod Items
pub mod Nested
pub mod Records
pub mod Untouched
