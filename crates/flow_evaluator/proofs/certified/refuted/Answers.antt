use Rattle.flow_evaluator.proofs.certified.refuted.Goals as goal

pub returns : goal.returns
returns c =
    c.multipliers_prove.ensures.none c.args.problem.now c.is_valid.ensures.valid c.args.set
    c.requires.structure c.args.ys c.requires.refuted.each_row c.requires.refuted.refutes
