use Rattle.std.proofs.Common.{◌≡◌, ℤ, SFits, rules, w64, ap, ◌∙◌, refl}
use Rattle.std.proofs.lemmas.Int.{to_z-of_z}
use Rattle.text_rules.specs.problem_rules.Problem.{Material}
use Rattle.pns_problem.proofs.SettingLemmas.{with_material, material_set}
use Rattle.pns_problem.proofs.problem.Problem.set_price.Goals as goal

pub invariant_of-self : goal.invariant_of-self
invariant_of-self c =
    let p = c.self.inside.parts in
    let fits : SFits w64 c.args.price = search rules in
    let to : c.set_price.new.self
    ≡ with_material p c.args.x (λ m. record m { price = c.args.price })
    = c.set_price.ensures
    ∙ ap (λ (z : ℤ). with_material p c.args.x (λ m. record m { price = z }))
    (to_z-of_z w64 c.args.price fits) in
    material_set p c.args.self.now c.set_price.new.self c.args.x
    (λ (m : Material). record m { price = c.args.price })
    c.self.inside.materials c.self.inside.units (λ m. refl) c.self.view_is to c.self.invariant
    c.requires.valid
