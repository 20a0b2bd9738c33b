use Rattle.std.proofs.Common.{ap, ◌∙◌}
use Rattle.std.specs.List.{position}
use Rattle.std.specs.Str.{bytes_eq}
use Rattle.text_lines.proofs.Naming.{position_listed}
use Rattle.text_lines.proofs.name_set.NameSet.number_of.Goals as goal

pub returns : goal.returns
returns c =
    c.get_index_of.ensures.index
    ∙ (position_listed c.args.name.now c.self.inside.names.keys
    ∙ ap (λ names. position (λ word. bytes_eq word c.args.name.now) names) c.self.view_is)
