pub mod Sides
pub mod Meetings
pub mod Lists
pub mod Additions
pub mod Ambiguities
pub mod Leads
pub mod New
