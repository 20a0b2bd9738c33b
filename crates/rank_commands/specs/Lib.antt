pub mod Found
pub mod Normal
