use Rattle.std.proofs.Common.{ap, ◌∙◌}
use Rattle.text_rules.specs.problem_rules.Names.{is_among}
use Rattle.pns_problem.proofs.NameLemmas.{has_listed}
use Rattle.pns_problem.proofs.name_table.NameTable.has.Goals as goal

pub returns : goal.returns
returns c = c.contains.ensures
    ∙ (has_listed c.args.name.now c.self.inside.names.keys
    ∙ ap (λ names. is_among names c.args.name.now) c.self.view_is)
