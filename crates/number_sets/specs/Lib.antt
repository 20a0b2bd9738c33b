pub mod Options
pub mod Sets
