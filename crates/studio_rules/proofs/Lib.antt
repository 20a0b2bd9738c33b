pub mod Cited
pub mod Maximal
