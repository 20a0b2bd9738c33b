use Rattle.std.proofs.Common.{ap, ◌∙◌}
use Rattle.std.specs.List.{position}
use Rattle.std.specs.Str.{bytes_eq}
use Rattle.pns_problem.proofs.NameLemmas.{position_listed}
use Rattle.pns_problem.proofs.name_table.NameTable.number_of.Goals as goal

pub returns-in-Some : goal.returns-in-Some
returns-in-Some c = c.in-Some.ensures.index
    ∙ (position_listed c.args.name.now c.self.inside.names.keys
    ∙ ap (λ names. position (λ word. bytes_eq word c.args.name.now) names) c.self.view_is)

pub returns-in-None : goal.returns-in-None
returns-in-None c = c.in-None.ensures.index
    ∙ (position_listed c.args.name.now c.self.inside.names.keys
    ∙ ap (λ names. position (λ word. bytes_eq word c.args.name.now) names) c.self.view_is)
