use Rattle.std.proofs.Common.{◌<◌, ℕ, subst, sym}
use Rattle.flow_program.specs.flow_rules.LinearProgram.{linear_of}
use Rattle.dual_simplex.proofs.OptionLemmas.{map_some, map_none}
use Rattle.dual_simplex.proofs.SecondLemmas.{columns_are}
use Rattle.dual_simplex.proofs.walk.enters.Goals as goal

pub returns-clause-found : goal.returns-clause-found
returns-clause-found c =
    map_some c.entering.result
    (λ e h. h (linear_of c.args.program.now) c.requires.second.on_path.size)
    c.entering.ensures.found

pub returns-clause-none : goal.returns-clause-none
returns-clause-none c =
    let n =
    columns_are (linear_of c.args.program.now) c.args.rows.now c.requires.second.on_path.size in
    map_none c.entering.result (λ h. record {
      on_path = c.requires.second.on_path;
      refuting =
          record {
            leaving = c.requires.leaves;
            entries =
                λ k l. h k (subst (λ (m : ℕ). k < m) (sym n) l);
          };
    }) c.entering.ensures.none
