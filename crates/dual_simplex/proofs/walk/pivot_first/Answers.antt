use Rattle.std.proofs.Common.{◌≡◌, ◌+◌, ℕ, pos, ap, sym, ◌∙◌, subst}
use Rattle.std.specs.Prelude.{◌<ℤ◌}
use Rattle.flow_program.specs.flow_rules.LinearProgram.{linear_of}
use Rattle.flow_program.specs.flow_rules.Columns.{s_at, scale_at}
use Rattle.dual_simplex.specs.Rows.{table}
use Rattle.dual_simplex.proofs.FirstLemmas.{scale_is, first_done, first_past}
use Rattle.dual_simplex.proofs.walk.pivot_first.Goals as goal

pub returns-in-Ok-clause-done : goal.returns-in-Ok-clause-done
returns-in-Ok-clause-done c =
    let p = linear_of c.args.program.now in
    let old = c.args.rows.now in
    let on = c.requires.first.on_path in
    let negative : table old (scale_at p) c.args.unit <ℤ pos 0 =
    subst (λ (s : ℕ). table old s c.args.unit <ℤ pos 0) (scale_is p old on.size)
    c.requires.negative in
    let leaves : c.s_at-leaves.result ≡ s_at p c.args.unit =
    c.s_at-leaves.ensures ∙ ap (λ (n : ℕ). n + c.args.unit) (sym on.size.units) in
    first_done p old c.args.unit c.requires.unit c.requires.first negative
    c.exchange-answer.new.self c.are_rows.ensures c.are_rows-2.ensures c.in-Ok.ensures.size
    c.s_at-leaves.result leaves c.in-Ok.ensures.done

pub returns-in-Err-clause-past : goal.returns-in-Err-clause-past
returns-in-Err-clause-past c =
    let p = linear_of c.args.program.now in
    let old = c.args.rows.now in
    let on = c.requires.first.on_path in
    let negative : table old (scale_at p) c.args.unit <ℤ pos 0 =
    subst (λ (s : ℕ). table old s c.args.unit <ℤ pos 0) (scale_is p old on.size)
    c.requires.negative in
    let leaves : c.s_at-leaves.result ≡ s_at p c.args.unit =
    c.s_at-leaves.ensures ∙ ap (λ (n : ℕ). n + c.args.unit) (sym on.size.units) in
    first_past c.args.program.now c.is_program.ensures old c.exchange-answer.new.self c.args.unit
    c.requires.unit c.requires.first negative c.are_rows.ensures c.in-Err.ensures.size
    c.in-Err.ensures.flags c.s_at-leaves.result leaves
    c.in-Err.past.row c.in-Err.past.j c.in-Err.past.which c.in-Err.ensures.past
