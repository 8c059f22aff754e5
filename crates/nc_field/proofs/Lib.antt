pub mod Primes
pub mod Literals
pub mod Residues
pub mod Inverses
