use Rattle.std.proofs.Common.{◌≡◌, ℤ, SFits, rules, w64, ap, ◌∙◌, refl}
use Rattle.std.proofs.lemmas.Int.{to_z-of_z}
use Rattle.text_rules.specs.problem_rules.Problem.{OperatingUnit}
use Rattle.pns_problem.proofs.SettingLemmas.{with_unit, unit_set}
use Rattle.pns_problem.proofs.problem.Problem.set_fix.Goals as goal

pub invariant_of-self : goal.invariant_of-self
invariant_of-self c =
    let p = c.self.inside.parts in
    let fits : SFits w64 c.args.fix = search rules in
    let to : c.set_fix.new.self ≡ with_unit p c.args.u (λ w. record w { fix = c.args.fix })
    = c.set_fix.ensures
    ∙ ap (λ (z : ℤ). with_unit p c.args.u (λ w. record w { fix = z }))
    (to_z-of_z w64 c.args.fix fits) in
    unit_set p c.args.self.now c.set_fix.new.self c.args.u
    (λ (w : OperatingUnit). record w { fix = c.args.fix })
    c.self.inside.materials c.self.inside.units (λ w. refl) c.self.view_is to c.self.invariant
    c.requires.valid
