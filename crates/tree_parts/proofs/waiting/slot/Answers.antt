use Rattle.std.proofs.Common.{◌<◌, arith}
use Rattle.tree_parts.proofs.LaidNodes.{below_more, above_from}
use Rattle.tree_parts.proofs.waiting.slot.Goals as goal

pub returns-then-place-other-clause-high : goal.returns-then-place-other-clause-high
returns-then-place-other-clause-high c =
    above_from c.args.place c.args.waiting.now c.looking.at c.index-waiting-at.result
    c.requires.rising c.looking-test.true c.index-waiting-at.is c.if-place-other.true

pub looking-preserved : goal.looking-preserved
looking-preserved c =
    let a = c.if-place-other.false in
    let b = c.if-place-other-2.false in
    let less : c.index-waiting-at.result.place < c.args.place = omega (arith, a, b) in
    below_more c.args.place c.args.waiting.now c.looking.at c.index-waiting-at.result
    c.looking-test.true c.index-waiting-at.is less c.looking.invariant
