pub mod Leads
pub mod Outcomes
pub mod Snapshots
pub mod Traces
