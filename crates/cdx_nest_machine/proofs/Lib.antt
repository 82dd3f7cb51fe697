pub mod Stacks
pub mod Entering
pub mod Machine
pub mod HeardStack
pub mod Fed
