use Rattle.dual_simplex.proofs.NameLemmas as law
use Rattle.dual_simplex.proofs.past_laws.names_are_of_program.Goals as goal

pub returns-clause-nonbasic : goal.returns-clause-nonbasic
returns-clause-nonbasic c = law.nonbasic_are_of_program

pub returns-clause-columns : goal.returns-clause-columns
returns-clause-columns c = law.columns_are_of_program

pub returns-clause-row : goal.returns-clause-row
returns-clause-row c = law.row_is_of_program

pub returns-clause-entries : goal.returns-clause-entries
returns-clause-entries c = law.entries_are_of_program

pub returns-clause-flows : goal.returns-clause-flows
returns-clause-flows c = law.flows_are_of_program
