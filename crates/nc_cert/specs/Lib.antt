pub mod Charges
pub mod Checking
pub mod Ready
pub mod Spent
pub mod Beyond
