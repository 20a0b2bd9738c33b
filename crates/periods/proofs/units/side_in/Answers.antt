use Rattle.std.proofs.Common.{◌≡◌, ap, ◌∙◌, arith, length, get_or}
use Rattle.plan_laws.specs.problem_rules.Problem.{Term}
use Rattle.plan_laws.specs.problem_rules.WellFormed.{IsWellFormedTerm}
use Rattle.plan_laws.proofs.Cited.{each_at}
use Rattle.periods.proofs.units.side_in.Goals as goal

pub overflow_add-first : goal.overflow_add-first
overflow_add-first c =
    let formed =
    each_at (IsWellFormedTerm (length c.args.problem.now.materials)) c.args.terms.now
    c.moving.term-index c.term-item.result c.requires.known c.moving-test.true in
    let known = formed.known in
    let same = ap (λ (t : Term). t.material) (c.term.view_is ∙ c.term-item.is) in
    let few = c.is_valid.ensures.well_formed.few_materials in
    let first = c.first_of-first.ensures.few in
    omega (arith, known, same, few, first)
