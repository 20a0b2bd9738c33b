use Rattle.report_tables.proofs.materials.push_flows.Goals as goal

pub unit_sum-requires : goal.unit_sum-requires
unit_sum-requires c = c.requires.feasible.structure.s3

pub unit_sum-requires-2 : goal.unit_sum-requires-2
unit_sum-requires-2 c = c.requires.feasible.structure.s3
