pub mod Ascending
pub mod Mapped
pub mod Growth
pub mod Undoing
pub mod Least
pub mod Units
