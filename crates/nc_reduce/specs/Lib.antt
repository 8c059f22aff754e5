pub mod Leads
pub mod Starts
pub mod Turns
pub mod Limits
pub mod Steps
pub mod Touches
