pub mod Leads
pub mod Pairs
pub mod Multiples
pub mod Searches
