pub mod Beyond
pub mod Table
pub use Rattle.stability.specs.stability_laws as stability_laws
