use Rattle.std.proofs.Common.{Result, Ok, Err, IfOk}
use Rattle.tree_text_rules.specs.problem_rules.Problem.{Problem}
use Rattle.branch_tree.specs.View.{end_of}
use Rattle.branch_tree.specs.declared.end.End.{End}
use Rattle.tree_text_rules.specs.tree_rules.Known.{KnowsEnd}
use Rattle.tree_reading.proofs.ends.end_line.Goals as goal

-- an end that each problem knows
known_at : {F : Type 0} (p : Problem) (r : Result End F)
    → IfOk r (λ end. (p : Problem) → KnowsEnd p (end_of end))
    → IfOk r (λ end. KnowsEnd p (end_of end))
known_at p (Ok end) known = known p
known_at p (Err fault) known = tt

pub returns-in-Some-Open-clause-known : goal.returns-in-Some-Open-clause-known
returns-in-Some-Open-clause-known c =
    known_at c.args.problem.now c.open_end.result c.open_end.ensures.known
