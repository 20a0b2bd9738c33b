use Rattle.std.proofs.Common.{ap, ◌∙◌}
use Rattle.neutral_extension.specs.Candidates.{left}
use Rattle.neutral_extension.proofs.KeptLemmas.{first_lacks, lacks_first, lacks_from}
use Rattle.neutral_extension.proofs.makers.Makers.lacks.Goals as goal

pub returns : goal.returns
returns c = lacks_from c.first.result c.is_none.result c.is_none.ensures
    ∙ (ap lacks_first c.first.ensures ∙ first_lacks (left c.args.self.now c.args.x))
