use Rattle.std.proofs.Common.{◌<◌, ◌≤◌, length}
use Rattle.std.proofs.lemmas.List.{drop_all}
use Rattle.report_rules.specs.flow_rules.Net.{beside}
use Rattle.report_amounts.proofs.SizeLemmas.{size_later, size_none}
use Rattle.report_amounts.proofs.marginals.beside.Goals as goal

pub rows-preserved : goal.rows-preserved
rows-preserved c =
    size_later c.args.values.now c.rows.left c.take_least.new.self c.rows.value-index c.in-Some.row
    c.args.j (beside c.args.set c.args.values.now c.args.j) c.in-Some.ensures.taken
    c.rows-test.true c.rows.invariant c.if-row-j.false

pub returns-clause-value : goal.returns-clause-value
returns-clause-value c =
    size_none c.args.values.now c.rows.left c.rows.value-index c.args.j
    (beside c.args.set c.args.values.now c.args.j)
    (drop_all c.rows.value-index c.args.values.now c.rows-test.false) c.rows.invariant
