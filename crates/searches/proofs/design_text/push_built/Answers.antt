use Rattle.std.proofs.Common.{◌∙◌, ◌++◌, ℕ, List, ap, ap₂}
use Rattle.command_files.specs.plan_rules.Folded.{Written}
use Rattle.command_files.specs.studio_rules.DesignText.{spaced_units}
use Rattle.searches.proofs.Texts.{built_text}
use Rattle.searches.proofs.design_text.push_built.Goals as goal

pub returns : goal.returns
returns c =
    let p = c.args.problem.now in
    let x : Written = c.args.design.now in
    let app : List ℕ → List ℕ → List ℕ = λ a b. a ++ b in
    c.in_ok-push_text-3.ensures
    ∙ (ap₂ app (c.in_ok-push_text-2.ensures
    ∙ ap₂ app (c.in_ok-push_units.ensures
    ∙ ap₂ app c.in_ok-push_text.ensures
    (ap (λ (y : Written). spaced_units p y.built) c.design.view_is))
    (c.as_str.ensures.value ∙ c.in_ok-texts.ensures.capacities))
    (c.as_str-2.ensures.value ∙ c.in_ok-texts.ensures.cost)
    ∙ built_text p c.args.text.now.items x)
