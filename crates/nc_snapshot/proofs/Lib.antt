pub mod Founds
pub mod Leads
pub mod Limits
pub mod Steps
pub mod Snapshots
