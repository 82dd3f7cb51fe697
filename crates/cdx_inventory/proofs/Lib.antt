pub mod Unlisted
pub mod Counted
pub mod Listed
pub mod Stays
pub mod Walks
pub mod Made
pub mod Owed
