pub mod Collecting
pub mod Keeping
pub mod Multiples
pub mod Ordered
