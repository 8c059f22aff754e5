pub mod Letters
pub mod Numbered
pub mod Showing
