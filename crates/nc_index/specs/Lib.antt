pub mod Pairs
pub mod Chosen
