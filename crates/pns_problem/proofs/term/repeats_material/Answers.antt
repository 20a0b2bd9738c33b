use Rattle.std.proofs.Common.{ap}
use Rattle.pns_problem.proofs.MarkLemmas.{none_repeated, repeat_found, none_repeats}
use Rattle.text_rules.specs.problem_rules.Problem.{Term}
use Rattle.pns_problem.proofs.term.repeats_material.Goals as goal

pub looking-init : goal.looking-init
looking-init c = none_repeated c.args.materials c.args.terms.now c.requires.known

pub returns-then-marked-number : goal.returns-then-marked-number
returns-then-marked-number c =
    repeat_found c.args.materials c.args.terms.now c.looking.term-index c.term-item.result
    c.requires.few c.looking-test.true c.term-item.is
    c.looking.marked c.term.inside.material (ap (λ (t : Term). t.material) c.term.view_is)
    c.looking.invariant c.if-marked-number.true

pub looking-preserved : goal.looking-preserved
looking-preserved c =
    none_repeats c.args.materials c.args.terms.now c.looking.term-index c.term-item.result
    c.requires.few c.looking-test.true c.term-item.is
    c.looking.marked c.term.inside.material (ap (λ (t : Term). t.material) c.term.view_is)
    c.looking.invariant c.if-marked-number.false
