pub mod Entries
pub mod DataEntries
pub mod DataSpelled
pub mod Flows
