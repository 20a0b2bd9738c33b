use Rattle.std.proofs.Common.{◌≡◌, ℤ, SFits, rules, w64, ap, ◌∙◌, refl}
use Rattle.std.proofs.lemmas.Int.{to_z-of_z}
use Rattle.text_rules.specs.problem_rules.Problem.{OperatingUnit}
use Rattle.pns_problem.proofs.SettingLemmas.{with_unit, unit_set}
use Rattle.pns_problem.proofs.problem.Problem.set_proportional.Goals as goal

pub invariant_of-self : goal.invariant_of-self
invariant_of-self c =
    let p = c.self.inside.parts in
    let fits : SFits w64 c.args.proportional = search rules in
    let to : c.set_proportional.new.self
    ≡ with_unit p c.args.u (λ w. record w { proportional = c.args.proportional })
    = c.set_proportional.ensures
    ∙ ap (λ (z : ℤ). with_unit p c.args.u (λ w. record w { proportional = z }))
    (to_z-of_z w64 c.args.proportional fits) in
    unit_set p c.args.self.now c.set_proportional.new.self c.args.u
    (λ (w : OperatingUnit). record w { proportional = c.args.proportional })
    c.self.inside.materials c.self.inside.units (λ w. refl) c.self.view_is to c.self.invariant
    c.requires.valid
