use Rattle.std.proofs.Common.{not, ap, ◌∙◌}
use Rattle.edit_rules.specs.problem_rules.Names.{is_among}
use Rattle.text_lines.specs.View.{texts}
use Rattle.edit_rules.specs.text_rules.Fault.{with_name}
use Rattle.text_lines.proofs.Naming.{has_listed, listed_with}
use Rattle.text_lines.proofs.name_set.NameSet.add.Goals as goal

pub returns-clause-new : goal.returns-clause-new
returns-clause-new c =
    c.in_ok-is_new.ensures.added
    ∙ ap not (has_listed c.args.name.now c.self.inside.names.keys
    ∙ ap (λ names. is_among names c.args.name.now) c.self.view_is)

pub returns-clause-added : goal.returns-clause-added
returns-clause-added c =
    ap texts c.in_ok-is_new.ensures.keys
    ∙ listed_with c.self.inside.names.keys c.args.name
    ∙ ap (λ names. with_name names c.args.name.now) c.self.view_is
