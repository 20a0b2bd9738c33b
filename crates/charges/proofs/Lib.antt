pub mod BendLemmas
pub mod CoverLemmas
pub mod FreeLemmas
pub mod GroundLemmas
pub mod KneeLemmas
pub mod OwnLemmas
pub mod PaidLemmas
pub mod PayingLemmas
pub mod SumLemmas
pub mod UnitLemmas
pub mod UseLemmas
pub mod ColumnLemmas
pub mod RowLemmas
pub mod TableLemmas
pub use Rattle.structure_list.proofs.pns_problem as pns_problem
pub use Rattle.structure_list.proofs.pgraph as pgraph
pub use Rattle.structure_list.proofs as structure_list
pub use Rattle.flow_program.proofs as flow_program
