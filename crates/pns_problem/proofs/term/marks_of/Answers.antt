use Rattle.std.proofs.Common.{ap}
use Rattle.pns_problem.proofs.MarkLemmas.{none_marked, marked_more}
use Rattle.text_rules.specs.problem_rules.Problem.{Term}
use Rattle.pns_problem.proofs.term.marks_of.Goals as goal

pub marking-init : goal.marking-init
marking-init c = none_marked c.args.materials c.args.terms.now c.requires.known

pub marking-preserved : goal.marking-preserved
marking-preserved c =
    marked_more c.args.materials c.args.terms.now c.marking.term-index c.term-item.result
    c.requires.few c.marking-test.true c.term-item.is
    c.marking.marked c.term.inside.material (ap (λ (t : Term). t.material) c.term.view_is)
    c.marking.invariant
