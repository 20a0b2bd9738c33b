use Rattle.std.proofs.Common.{ap, ◌∙◌}
use Rattle.studio_rules.specs.problem_rules.Names.{is_among}
use Rattle.pns_problem.proofs.Cited.{has_listed}
use Rattle.studio_words.proofs.unit_names.UnitNames.has.Goals as goal

pub returns : goal.returns
returns c = c.contains.ensures
    ∙ (has_listed c.args.name.now c.self.inside.names.keys
    ∙ ap (λ names. is_among names c.args.name.now) c.self.view_is)
