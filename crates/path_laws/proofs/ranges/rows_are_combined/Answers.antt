use Rattle.path_laws.proofs.RowLemmas as law
use Rattle.path_laws.proofs.ranges.rows_are_combined.Goals as goal

pub returns-clause-combined : goal.returns-clause-combined
returns-clause-combined c = law.rows_are_combined

pub returns-clause-primitive : goal.returns-clause-primitive
returns-clause-primitive c = law.rows_are_primitive
