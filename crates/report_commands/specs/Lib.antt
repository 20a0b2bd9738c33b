pub mod Shown
pub mod Unfolded
pub mod Works
