pub mod ItemKinds
pub mod RecordKinds
pub mod Trees
