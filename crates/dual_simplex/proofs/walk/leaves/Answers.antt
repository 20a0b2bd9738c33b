use Rattle.flow_program.specs.flow_rules.LinearProgram.{linear_of}
use Rattle.dual_simplex.proofs.OptionLemmas.{map_some}
use Rattle.dual_simplex.proofs.SecondLemmas.{dual_feasible}
use Rattle.dual_simplex.proofs.walk.leaves.Goals as goal

pub leaving-requires : goal.leaving-requires
leaving-requires c =
    record {
      costs =
          dual_feasible (linear_of c.args.program.now) c.args.rows.now c.requires.second;
    }

pub returns-clause-found : goal.returns-clause-found
returns-clause-found c =
    map_some c.leaving.result
    (λ l h. h (linear_of c.args.program.now) c.requires.second.on_path.size) c.leaving.ensures.found
