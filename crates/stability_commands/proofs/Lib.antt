mod Named
mod Printed
mod RangeRows
mod Stopped
mod Told
pub use Rattle.stability.proofs.stability_laws as stability_laws
