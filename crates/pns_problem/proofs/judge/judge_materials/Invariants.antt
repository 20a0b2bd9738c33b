use Rattle.pns_problem.proofs.Judging.{AreMaterialsJudged}
use Rattle.pns_problem.proofs.judge.judge_materials.Given as goal

abbrev pub invariant-judging : goal.invariant-judging
invariant-judging l = AreMaterialsJudged l.materials l.material-index l.names l.at
