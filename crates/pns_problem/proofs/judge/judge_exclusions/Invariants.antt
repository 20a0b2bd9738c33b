use Rattle.pns_problem.proofs.Judging.{AreExclusionsJudged}
use Rattle.pns_problem.proofs.judge.judge_exclusions.Given as goal

abbrev pub invariant-judging : goal.invariant-judging
invariant-judging l = AreExclusionsJudged l.units l.exclusions l.exclusion-index l.names l.at
