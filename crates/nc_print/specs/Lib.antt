pub mod Begins
pub mod Printing
