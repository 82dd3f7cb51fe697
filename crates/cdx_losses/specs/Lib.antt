pub mod Losses
pub mod Laws
pub mod Answers
pub mod Told
pub mod LeftOut
pub mod Walks
pub mod Report
