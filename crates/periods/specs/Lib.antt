pub mod Reading
pub mod View
pub use Rattle.plan_laws.specs.plan_rules as plan_rules
pub use Rattle.plan_laws.specs as plan_laws
