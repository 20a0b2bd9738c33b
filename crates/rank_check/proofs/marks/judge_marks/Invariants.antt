use Rattle.std.proofs.Common.{map}
use Rattle.cert_check.specs.OpenLeaves.{leaves_at}
use Rattle.rank_check.specs.View.{mark_of}
use Rattle.rank_check.proofs.TurnLemmas.{AreOn}
use Rattle.rank_check.proofs.marks.judge_marks.Given as goal

abbrev pub invariant-judging : goal.invariant-judging
invariant-judging l =
    AreOn l.distinct l.site l.networks (leaves_at l.leaves) (map mark_of l.marks) l.i
