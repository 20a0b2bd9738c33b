use Rattle.std.proofs.Common.{◌∙◌, sym, ap, SFits, rules, List, length, subst}
use Rattle.std.specs.Int.{w64}
use Rattle.std.proofs.lemmas.Int.{to_z-of_z}
use Rattle.pgraph.specs.problem_rules.Problem.{OperatingUnit, Term, rate_in, unit_at}
use Rattle.pgraph.specs.problem_rules.WellFormed.{IsInRange}
use Rattle.pgraph.proofs.flow_rules.Cited.{unit_formed}
use Rattle.flow_program.proofs.RateLemmas.{unit_read, rate_in_range}
use Rattle.flow_program.proofs.feasibility.rate_at.Goals as goal

pub difference-requires-clause-made : goal.difference-requires-clause-made
difference-requires-clause-made c =
    let r : SFits w64 c.rate_among-made.result = search rules in
    simp to_z-of_z
    (subst IsInRange
    (sym (c.rate_among-made.ensures
    ∙ ap (λ (ts : List Term). rate_in ts c.args.j)
    (c.deref.ensures.value
    ∙ ap (λ (x : OperatingUnit). x.outputs)
    (c.unit.view_is
    ∙ unit_read c.args.problem.now c.units.result.now c.args.u c.index-units-u.result
    c.units.ensures c.requires c.index-units-u.is))))
    (rate_in_range (length c.args.problem.now.materials)
    (unit_at c.args.problem.now c.args.u).outputs c.args.j
    (unit_formed c.args.problem.now c.is_valid.ensures.well_formed c.args.u
    c.requires).outputs.terms_formed))

pub difference-requires-clause-used : goal.difference-requires-clause-used
difference-requires-clause-used c =
    let r : SFits w64 c.rate_among-used.result = search rules in
    simp to_z-of_z
    (subst IsInRange
    (sym (c.rate_among-used.ensures
    ∙ ap (λ (ts : List Term). rate_in ts c.args.j)
    (c.deref-2.ensures.value
    ∙ ap (λ (x : OperatingUnit). x.inputs)
    (c.unit.view_is
    ∙ unit_read c.args.problem.now c.units.result.now c.args.u c.index-units-u.result
    c.units.ensures c.requires c.index-units-u.is))))
    (rate_in_range (length c.args.problem.now.materials)
    (unit_at c.args.problem.now c.args.u).inputs c.args.j
    (unit_formed c.args.problem.now c.is_valid.ensures.well_formed c.args.u
    c.requires).inputs.terms_formed))
