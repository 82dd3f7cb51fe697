pub mod Leaf
pub mod LeafSteps
