pub mod Printed
pub mod Prints
