pub mod Escapes
pub mod Lists
pub mod AddressTexts
pub mod Compared
