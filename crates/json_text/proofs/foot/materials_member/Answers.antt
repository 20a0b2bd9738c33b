use Rattle.std.proofs.Common.{◌∙◌, ap}
use Rattle.report_rules.specs.Number.{Number}
use Rattle.report_rules.specs.Facts.{number_member}
use Rattle.json_text.proofs.foot.materials_member.Goals as goal

pub returns : goal.returns
returns c = c.in_ok-member.ensures
    ∙ ap (λ (n : Number). number_member c.args.key.now n) c.cost_sum-sum.ensures
