pub mod Starts
pub mod Choices
pub mod Turns
pub mod Limits
