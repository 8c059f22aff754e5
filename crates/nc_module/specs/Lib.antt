pub mod Factors
pub mod Modules
pub mod Problems
