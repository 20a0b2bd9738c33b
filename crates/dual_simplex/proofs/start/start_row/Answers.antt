use Rattle.std.proofs.Common.{rules, ◌≡◌, ◌+◌, ◌-◌, ◌*◌, ℕ, ℤ, List, arith, length}
use Rattle.dual_simplex.proofs.BlockLemmas.{other_row, all_kept}
use Rattle.dual_simplex.proofs.start.start_row.Goals as goal

pub returns-clause-others : goal.returns-clause-others
returns-clause-others c =
    λ d ne. other_row c.args.width c.args.c d
    (c.args.c * c.args.width + c.args.width - c.args.c * c.args.width) c.args.entries.now
    c.write_start_row.new.row (omega arith) (search rules) c.requires.room ne

pub returns-clause-in_range : goal.returns-clause-in_range
returns-clause-in_range c =
    all_kept (c.args.c * c.args.width) _ c.args.entries.now c.write_start_row.new.row
    c.requires.all_in_range c.write_start_row.ensures.in_range
