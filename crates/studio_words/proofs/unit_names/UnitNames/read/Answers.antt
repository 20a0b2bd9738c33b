use Rattle.std.proofs.Common.{sym, ◌∙◌}
use Rattle.studio_words.proofs.NameLists.{unit_names_of-gathered}
use Rattle.studio_words.proofs.unit_names.UnitNames.read.Goals as goal

pub returns : goal.returns
returns c =
    rw (unit_names_of-gathered c.args.word.now (sym c.eq.ensures ∙ c.if-eq.false)) c.gather.ensures
