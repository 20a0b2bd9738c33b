use Rattle.std.proofs.Common.{◌∙◌}
use Rattle.json_text.specs.report_rules.JsonRanked.{networks_member}
use Rattle.report_commands.proofs.object.listed_member.Goals as goal

pub returns : goal.returns
returns c =
    c.in_ok-listed.ensures
    ∙ (λ i. networks_member (c.problem.ensures.same i) (c.networks.ensures i))
