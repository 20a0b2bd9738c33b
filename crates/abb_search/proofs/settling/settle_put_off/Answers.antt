use Rattle.std.proofs.Common.{sym, ◌∙◌}
use Rattle.abb_search.proofs.SameLemmas.{same_refl}
use Rattle.abb_search.proofs.SettleLemmas.{put_off_is_waiting, stays_settling}
use Rattle.abb_search.proofs.settling.settle_put_off.Goals as goal

pub settle_leaf-requires-clause-waits : goal.settle_leaf-requires-clause-waits
settle_leaf-requires-clause-waits g c =
    put_off_is_waiting c.args.growing.now c.requires.growing.1.are_open c.args.leaf c.requires.leaf
    (sym c.is_put_off.ensures ∙ c.if-is_put_off.true)

pub returns-then-is_put_off-clause-settles : goal.returns-then-is_put_off-clause-settles
returns-then-is_put_off-clause-settles g c =
    stays_settling g.E.Evaluator.past c.args.site.now c.args.growing.now c.settle_leaf.new.growing
    c.settle_leaf.result c.settle_leaf.ensures.settles

pub returns-else-is_put_off-clause-same : goal.returns-else-is_put_off-clause-same
returns-else-is_put_off-clause-same g c =
    same_refl g.E.Evaluator.past c.args.site.now c.args.growing.now
