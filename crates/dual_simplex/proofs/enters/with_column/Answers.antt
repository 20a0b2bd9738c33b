use Rattle.std.proofs.Common.{pos, ◌<ℤ◌, rules}
use Rattle.dual_simplex.specs.Rows.{table}
use Rattle.dual_simplex.proofs.CandidateLemmas.{first_best, better_best, worse_best}
use Rattle.dual_simplex.proofs.enters.with_column.Goals as goal

pub returns-in_default : goal.returns-in_default
returns-in_default c =
    let n = c.candidate_of-next in
    let neg : table c.args.rows.now c.args.l c.args.column <ℤ pos 0 = search rules in
    first_best c.args.rows.now c.args.l c.args.column n.result.column n.result.size c.args.best
    n.ensures.column n.ensures.size neg c.in_default.is c.requires.best

pub returns-then-comes_before : goal.returns-then-comes_before
returns-then-comes_before c =
    let n = c.candidate_of-next in
    let neg : table c.args.rows.now c.args.l c.args.column <ℤ pos 0 = search rules in
    better_best c.args.rows.now c.args.l c.args.column n.result.column n.result.size c.args.best
    c.in-Some.least c.columns_are_ordered.ensures.order n.ensures.column n.ensures.size neg
    c.in-Some.is c.requires.best (c.comes_before.ensures.yes c.if-comes_before.true)

pub returns-else-comes_before : goal.returns-else-comes_before
returns-else-comes_before c =
    let n = c.candidate_of-next in
    worse_best c.args.rows.now c.args.l c.args.column n.result.column n.result.size c.args.best
    c.in-Some.least n.ensures.column n.ensures.size c.in-Some.is c.requires.best
    (c.comes_before.ensures.no c.if-comes_before.false)
