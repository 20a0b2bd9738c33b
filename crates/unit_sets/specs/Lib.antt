pub mod HalfInverse
pub mod Halves
pub mod MaskInverse
pub mod Masks
