pub mod AddsLemmas
pub mod MemoryLemmas
pub mod PiecesLemmas
