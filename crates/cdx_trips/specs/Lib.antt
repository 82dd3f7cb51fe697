pub mod Laws
pub mod Surviving
