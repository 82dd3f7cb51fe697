pub mod Leads
pub mod Members
pub mod Apart
pub mod Cut
pub mod Strikes
pub mod Spared
pub mod Levels
pub mod Walks
pub mod Gone
pub mod Roads
pub mod Values
pub mod Reported
mod Shown
mod LossRows
