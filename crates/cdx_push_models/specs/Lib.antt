pub mod Exact
pub mod ItemKinds
pub mod RecordKinds
