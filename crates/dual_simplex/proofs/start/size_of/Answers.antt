use Rattle.std.proofs.Common.{◌≡◌, ◌≤◌, arith, sym, ap, subst, ◌∙◌, ℕ, length}
use Rattle.dual_simplex.proofs.RowSizeLemmas.{few_units, few_rows}
use Rattle.dual_simplex.proofs.start.size_of.Goals as goal

pub returns-clause-few_units : goal.returns-clause-few_units
returns-clause-few_units c =
    subst (λ (n : ℕ). n ≤ 128) (sym (c.count.ensures ∙ ap length c.units.ensures))
    (few_units c.args.program.now c.is_program.ensures)

pub returns-clause-few_rows : goal.returns-clause-few_rows
returns-clause-few_rows c =
    subst (λ (n : ℕ). n ≤ 256) (sym (c.count-2.ensures ∙ ap length c.rows.ensures))
    (few_rows c.args.program.now c.is_program.ensures)
