use Rattle.std.proofs.Common.{◌∙◌, Some, None}
use Rattle.studio_words.proofs.NameLists.{name_at}
use Rattle.studio_words.proofs.unit_names.UnitNames.name.Goals as goal

pub returns-in-Some : goal.returns-in-Some
returns-in-Some c = c.as_str.ensures.value
    ∙ name_at c.self.inside.names.keys c.args.self.now c.args.k (Some c.in-Some.name.now)
    c.self.view_is c.in-Some.ensures.key

pub returns-in-None : goal.returns-in-None
returns-in-None c =
    name_at c.self.inside.names.keys c.args.self.now c.args.k None c.self.view_is
    c.in-None.ensures.key
