pub mod Lists
pub mod Joined
pub mod Entries
pub mod Back
