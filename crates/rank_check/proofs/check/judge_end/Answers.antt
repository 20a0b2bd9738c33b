use Rattle.cert_check.specs.OpenLeaves.{leaves_at}
use Rattle.rank_check.proofs.CheckLemmas.{ranked, mark_fails, all_known}
use Rattle.rank_check.proofs.check.judge_end.Goals as goal

pub returns-in-Ok-clause-passes : goal.returns-in-Ok-clause-passes
returns-in-Ok-clause-passes c =
    ranked c.args.site.now c.args.text.now (leaves_at c.args.leaves.now) c.requires.listed
    c.requires.walked c.requires.leaves c.in-Ok.ensures.passes

pub returns-in-Err-clause-fails : goal.returns-in-Err-clause-fails
returns-in-Err-clause-fails c =
    mark_fails c.args.site.now c.args.text.now (leaves_at c.args.leaves.now) c.in-Err.node
    c.in-Err.why c.requires.walked c.requires.leaves c.in-Err.ensures.fails

pub judge_open-requires : goal.judge_open-requires
judge_open-requires c =
    record {
      known =
          all_known c.args.site.now c.args.text.now (leaves_at c.args.leaves.now)
          c.requires.walked c.requires.leaves;
    }
