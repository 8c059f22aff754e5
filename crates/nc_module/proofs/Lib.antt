pub mod Bounds
pub mod Modules
pub mod Names
pub mod Settings
