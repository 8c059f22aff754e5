pub mod Quotients
pub mod Equality
