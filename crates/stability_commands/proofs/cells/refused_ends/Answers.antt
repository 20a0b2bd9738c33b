use Rattle.std.proofs.Common.{sym, subst}
use Rattle.stability_commands.proofs.Stopped.{LeavesOpen, open_ends}
use Rattle.stability_commands.proofs.cells.refused_ends.Goals as goal

pub returns-in-Spent-clause-cells : goal.returns-in-Spent-clause-cells
returns-in-Spent-clause-cells c = λ p spot w budget valid known is.
    open_ends c.accepted_is_optimal.ensures c.valued_is_valid.ensures p spot w budget valid known
    c.args.fault (subst LeavesOpen (sym c.in-Spent.is) tt) is _ _
    c.in_ok-open_ends-in-Spent.ensures.from c.in_ok-open_ends-in-Spent.ensures.to

pub returns-in-Past-clause-cells : goal.returns-in-Past-clause-cells
returns-in-Past-clause-cells c = λ p spot w budget valid known is.
    open_ends c.accepted_is_optimal.ensures c.valued_is_valid.ensures p spot w budget valid known
    c.args.fault (subst LeavesOpen (sym c.in-Past.is) tt) is _ _
    c.in_ok-open_ends-in-Past.ensures.from c.in_ok-open_ends-in-Past.ensures.to
