use Rattle.stability_commands.proofs.cells.ends_of.Goals as goal

pub returns-in-Err-clause-fault : goal.returns-in-Err-clause-fault
returns-in-Err-clause-fault g c =
    c.refused_ends.ensures.fault c.args.site.now c.args.spot c.args.network.now
    c.args.effort.budget c.in-Err.ensures.refusal
