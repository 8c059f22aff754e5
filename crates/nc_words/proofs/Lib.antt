pub mod Letters
pub mod Occurrences
pub mod Comparisons
