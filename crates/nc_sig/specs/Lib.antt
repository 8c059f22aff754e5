pub mod Orders
pub mod Sigs
