mod LongDivision
pub mod Pieces
mod Places
pub mod Rows
mod Values
pub mod Worded
