pub mod Sides
pub mod Pairs
pub mod Divisors
pub mod Best
