use Rattle.std.proofs.Common.{ap, ◌∙◌, List}
use Rattle.report_rules.specs.tree_rules.Head.{HeadLine}
use Rattle.report_rules.specs.HeadedVerdict.{is_plain}
use Rattle.verdicts.proofs.HeadedLemmas.{plain_of}
use Rattle.verdicts.proofs.headed.is_plain.Goals as goal

pub returns : goal.returns
returns c =
    c.is_empty.ensures
    ∙ (plain_of c.lines.result.now ∙ ap (λ (h : List HeadLine). is_plain h) c.lines.ensures)
