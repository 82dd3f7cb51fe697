pub mod OnRows
pub mod Appended
pub mod RowsLaws
pub mod RowWords
pub mod Lists
pub mod Decimals
pub mod Hollow
