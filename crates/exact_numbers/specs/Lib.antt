pub mod MixedOrder
pub mod MixedOrderLaws
pub mod Number
pub mod Order
pub mod OrderLaws
pub mod Product
pub mod Sum
pub use Rattle.integer_laws.specs as integer_laws
