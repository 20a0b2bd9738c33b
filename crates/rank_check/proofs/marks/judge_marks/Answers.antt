use Rattle.std.proofs.Common.{map}
use Rattle.cert_check.specs.OpenLeaves.{leaf_at, leaves_at}
use Rattle.rank_check.specs.View.{mark_of}
use Rattle.rank_check.proofs.TurnLemmas.{map_ahead, known_at, marks_next, mark_off}
use Rattle.rank_check.proofs.marks.judge_marks.Goals as goal

pub returns-in-Err-clause-fails : goal.returns-in-Err-clause-fails
returns-in-Err-clause-fails c =
    mark_off c.args.distinct c.args.site.now c.args.networks.now (leaves_at c.args.leaves.now)
    (map mark_of c.args.marks.now) c.judging.i (leaf_at c.index-leaves-i.result) c.in-Err.why
    (map_ahead leaf_at c.args.leaves.now c.judging.i c.index-leaves-i.result c.judging-test.true
    c.index-leaves-i.is) c.in-Err.ensures.fails c.judging.invariant

pub judging-preserved : goal.judging-preserved
judging-preserved c =
    marks_next c.args.distinct c.args.site.now c.args.networks.now (leaves_at c.args.leaves.now)
    (map mark_of c.args.marks.now) c.judging.i (leaf_at c.index-leaves-i.result)
    (map_ahead leaf_at c.args.leaves.now c.judging.i c.index-leaves-i.result c.judging-test.true
    c.index-leaves-i.is) c.in-Ok.ensures.passes c.judging.invariant

pub judge_mark_at-requires : goal.judge_mark_at-requires
judge_mark_at-requires c =
    record {
      known =
          known_at c.args.site.now (leaves_at c.args.leaves.now) c.judging.i
          (leaf_at c.index-leaves-i.result) _ c.requires.known
          (map_ahead leaf_at c.args.leaves.now c.judging.i c.index-leaves-i.result
          c.judging-test.true c.index-leaves-i.is);
    }
