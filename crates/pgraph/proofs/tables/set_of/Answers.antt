use Rattle.std.proofs.Common.{get_or}
use Rattle.pgraph.proofs.TableLemmas.{has-get, has-more}
use Rattle.pgraph.proofs.tables.set_of.Goals as goal

pub with-set-requires : goal.with-set-requires
with-set-requires c =
    c.requires (get_or c.args.units.now c.loop-u.u-index 0)
    (has-get c.args.units.now c.loop-u.u-index 0 c.loop-u-test.true)

pub loop-u-preserved : goal.loop-u-preserved
loop-u-preserved c =
    has-more c.args.units.now c.loop-u.u-index 0 c.loop-u.set c.with-set.result c.loop-u-test.true
    c.loop-u.invariant c.with-set.ensures
