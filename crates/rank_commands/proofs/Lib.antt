pub mod Best
mod DistinctLists
mod Marks
pub mod Rankings
