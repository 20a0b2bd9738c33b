pub mod Counts
pub mod CutLines
pub mod Gathered
pub mod ItemLines
pub mod NoFault
pub mod RateKinds
pub mod Reading
pub mod SeenNames
pub use Rattle.text_lines.proofs.number_sets as number_sets
