use Rattle.std.proofs.Common.{ap}
use Rattle.pns_problem.proofs.MarkLemmas.{share_found, none_shared}
use Rattle.text_rules.specs.problem_rules.Problem.{Term}
use Rattle.pns_problem.proofs.term.shares_material.Goals as goal

pub returns-then-marked-term : goal.returns-then-marked-term
returns-then-marked-term c =
    share_found c.args.materials c.args.outputs.now c.looking.term-index c.term-item.result
    c.requires.few c.looking-test.true c.term-item.is
    c.args.inputs.now c.marks_of-marked.result c.term.inside.material
    (ap (λ (t : Term). t.material) c.term.view_is) c.marks_of-marked.ensures c.looking.invariant
    c.if-marked-term.true

pub looking-preserved : goal.looking-preserved
looking-preserved c =
    none_shared c.args.materials c.args.outputs.now c.looking.term-index c.term-item.result
    c.requires.few c.looking-test.true c.term-item.is
    c.args.inputs.now c.marks_of-marked.result c.term.inside.material
    (ap (λ (t : Term). t.material) c.term.view_is) c.marks_of-marked.ensures c.looking.invariant
    c.if-marked-term.false
