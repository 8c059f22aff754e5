pub mod Letters
pub mod Traces
pub mod Reports
pub mod Shown
pub mod Listings
