use Rattle.std.proofs.Common.{map}
use Rattle.cert_check.specs.OpenLeaves.{leaves_at}
use Rattle.rank_check.specs.View.{mark_of}
use Rattle.rank_check.proofs.CheckLemmas.{pass_as, fail_as}
use Rattle.rank_check.proofs.check.judge_open.Goals as goal

pub returns-clause-passes : goal.returns-clause-passes
returns-clause-passes c =
    pass_as c.args.site.now c.args.text.now (leaves_at c.args.leaves.now) c.is_distinct.result
    c.networks.result.now (map mark_of c.marks.result.now) c.is_distinct.ensures c.networks.ensures
    c.marks.ensures c.judge_marks.result
    c.judge_marks.ensures.passes

pub returns-clause-fails : goal.returns-clause-fails
returns-clause-fails c =
    fail_as c.args.site.now c.args.text.now (leaves_at c.args.leaves.now) c.is_distinct.result
    c.networks.result.now (map mark_of c.marks.result.now) c.is_distinct.ensures c.networks.ensures
    c.marks.ensures c.judge_marks.result
    c.judge_marks.ensures.fails
