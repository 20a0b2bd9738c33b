pub mod Kept
pub mod Unfolded
