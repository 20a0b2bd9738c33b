pub mod Draws
pub mod Each
pub mod Generated
pub mod Names
pub mod Problem
pub mod Validity
pub mod WellFormed
