use Rattle.pns_problem.proofs.ValidLemmas.{valid_parts}
use Rattle.std.proofs.Common.{◌∙◌, ap}
use Rattle.text_rules.specs.problem_rules.Draws.{state_after}
use Rattle.text_rules.specs.problem_rules.Generated.{materials_of, units_of, chain_length}
use Rattle.pns_problem.proofs.generator_problem.generate.Goals as goal

pub build_valid-requires : goal.build_valid-requires
build_valid-requires c =
    valid_parts c.args.number c.args.units _ _ _
    (c.in_ok-materials.ensures.materials
    ∙ ap (materials_of (chain_length c.args.units)) c.from_number-draws.ensures)
    (c.in_ok-units.ensures
    ∙ ap (λ state. units_of (chain_length c.args.units) state c.args.units)
    (c.in_ok-materials.ensures.advanced ∙ ap (state_after 3) c.from_number-draws.ensures))
    c.new-exclusions.ensures.items
    (c.generated_is_valid.ensures c.args.number c.args.units c.requires.some c.requires.few)
