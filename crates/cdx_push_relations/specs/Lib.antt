pub mod BomReferences
pub mod ItemKinds
pub mod RecordKinds
pub mod Signatures
pub mod Trees
