use Rattle.std.proofs.Common.{◌∙◌, ap, ℕ, List, length, nat_lt}
use Rattle.text_lines.specs.number_sets.Sets.{minus}
use Rattle.report_tables.proofs.LeftOut.{left_out_is}
use Rattle.report_tables.proofs.foot.left_out.Goals as goal

pub returns : goal.returns
returns c =
    let all = c.below-all.result in
    c.minus.ensures ∙ ap (λ (s : List ℕ). minus all s) c.units.ensures
    ∙ left_out_is (length c.args.problem.now.units) c.args.network.now.units all c.rises.ensures
    (λ u. c.below-all.ensures u ∙ ap (λ (n : ℕ). nat_lt u n) c.unit_count.ensures.count)
