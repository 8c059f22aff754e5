pub mod Places
pub mod Values
pub mod Reaches
pub mod Proved
pub mod Whole
pub mod Ends
pub mod Needed
