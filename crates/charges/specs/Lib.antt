pub mod Bends
pub mod Columns
pub mod Firsts
pub mod Ground
pub mod Known
pub mod Sets
pub use Rattle.structure_list.specs.unit_sets as unit_sets
pub use Rattle.flow_program.specs.exact_numbers as exact_numbers
pub use Rattle.structure_list.specs.pns_problem as pns_problem
pub use Rattle.structure_list.specs.pgraph as pgraph
pub use Rattle.structure_list.specs as structure_list
pub use Rattle.flow_program.specs as flow_program
