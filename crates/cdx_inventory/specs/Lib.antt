pub mod Listing
pub mod Entries
pub mod Walks
pub mod Stock
