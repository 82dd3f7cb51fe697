pub mod Compared
pub mod Copied
pub mod Grouped
pub mod Deep
pub mod ReadGroups
pub mod Found
pub mod FrameGroups
pub mod Written
