pub mod Regular
pub mod Chosen
