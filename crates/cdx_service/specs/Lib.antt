pub mod Trees
pub mod Laws
pub mod PartTrees
pub mod Groups
pub mod Stays
pub mod ReadingParts
pub mod Frames
pub mod FrameLaws
