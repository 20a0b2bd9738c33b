use Rattle.std.proofs.Common.{rules, ◌≡◌, ◌+◌, ◌-◌, ◌*◌, ℕ, ℤ, List, arith, sym, ap, ◌∙◌, subst}
use Rattle.std.proofs.Common.{length}
use Rattle.flow_program.specs.integer_laws.Range.{AllInRange}
use Rattle.dual_simplex.proofs.BlockLemmas.{other_row, all_kept}
use Rattle.dual_simplex.proofs.pivot_row.write_row.Goals as goal

pub returns-clause-others : goal.returns-clause-others
returns-clause-others c =
    λ d ne. other_row c.args.width c.args.c d
    (c.args.c * c.args.width + c.args.width - c.args.c * c.args.width) c.args.entries.now
    c.copy_from_slice.new.self (omega arith) (search rules) c.requires.room ne

pub returns-clause-in_range : goal.returns-clause-in_range
returns-clause-in_range c =
    all_kept (c.args.c * c.args.width) _ c.args.entries.now c.copy_from_slice.new.self
    c.requires.all_in_range
    (subst AllInRange (sym c.copy_from_slice.ensures.after) c.requires.row_in_range)
