pub mod Chunking
