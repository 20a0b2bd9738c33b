use Rattle.pns_problem.proofs.Judging.{AreUnitsJudged}
use Rattle.pns_problem.proofs.judge.judge_units.Given as goal

abbrev pub invariant-judging : goal.invariant-judging
invariant-judging l = AreUnitsJudged l.materials l.units l.unit-index l.names l.at
