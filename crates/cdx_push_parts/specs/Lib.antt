pub mod Choices
pub mod Exact
pub mod ItemKinds
pub mod RecordKinds
pub mod ServiceData
pub mod Trees
