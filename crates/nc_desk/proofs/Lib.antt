pub mod Candidates
pub mod Regular
pub mod Multiples
pub mod Lists
pub mod Left
pub mod News
pub mod Steps
pub mod Endings
