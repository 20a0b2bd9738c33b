use Rattle.std.proofs.Common.{sym, ap, ◌∙◌, length, string_bytes}
use Rattle.std.proofs.lemmas.List.{length-map}
use Rattle.studio_words.proofs.unit_names.UnitNames.len.Goals as goal

pub returns : goal.returns
returns c = c.len.ensures.len
    ∙ (sym (length-map c.self.inside.names.keys string_bytes) ∙ ap length c.self.view_is)
