pub mod Sides
pub mod Overlaps
