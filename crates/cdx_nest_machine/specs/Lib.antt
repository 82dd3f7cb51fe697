pub mod Forms
pub mod Children
pub mod Stacks
pub mod Frames
