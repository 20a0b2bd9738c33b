use Rattle.std.proofs.Common.{◌++◌, ℕ, List, map, ap, ◌∙◌}
use Rattle.text_lines.specs.problem_rules.Problem.{OperatingUnit}
use Rattle.text_lines.specs.text_rules.declared.Section.TheVariants.{OperatingUnits}
use Rattle.text_lines.specs.text_rules.Line.{Placed, lines_at}
use Rattle.text_lines.specs.text_rules.Value.{Names, listed_unit, bare_unit, bare_lines}
use Rattle.pns_text.proofs.value.units.Goals as goal
use Rattle.pns_text.proofs.value.units.Goals.{In_ok-push_bare_units}

module _ (c : In_ok-push_bare_units) where
  abbrev listed : List (List ℕ) → List OperatingUnit
  listed names =
      map (λ (line : Placed). listed_unit c.args.settings.now names c.args.lines.now line.text)
      (lines_at OperatingUnits c.args.lines.now)

  abbrev bare : List (List ℕ) → List OperatingUnit
  bare units =
      map (λ (line : Placed). bare_unit c.args.settings.now c.args.names.now.materials
      c.args.lines.now line.text) (bare_lines units c.args.lines.now)

pub returns : goal.returns
returns c =
    c.in_ok-push_bare_units.ensures
    ∙ ap (λ (units : List OperatingUnit). units ++ bare c c.args.names.now.units)
    (c.in_ok-units.ensures
    ∙ ap (listed c) (ap (λ (names : Names). names.materials) c.names.view_is))
    ∙ ap (λ (units : List (List ℕ)). listed c c.args.names.now.materials ++ bare c units)
    c.requires.units
