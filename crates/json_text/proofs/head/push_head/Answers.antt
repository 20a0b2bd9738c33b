use Rattle.std.proofs.Common.{◌∷◌, [], ◌++◌, ◌∙◌, map}
use Rattle.tree_reading.specs.pns_problem.Printing.{printed}
use Rattle.report_rules.specs.Json.{with_comma}
use Rattle.report_rules.specs.Facts.{counts_member, payout_member}
use Rattle.json_text.proofs.Pieces.{three_blocks}
use Rattle.json_text.proofs.head.push_head.Goals as goal

pub returns : goal.returns
returns c =
    let p = c.args.site.now in
    let w = c.args.network.now in
    let t0 = c.args.text.now.items in
    let t1 = c.push_line.new.text.items in
    let t2 = c.push_with_commas.new.text.items in
    three_blocks t0 t1 t2 c.push_with_commas-2.new.text.items ((123 ∷ []) ∷ [])
    (map with_comma c.args.head.now)
    (with_comma (counts_member p w) ∷ with_comma (payout_member p) ∷ [])
    c.in_ok-push_line.ensures c.in_ok-push_with_commas.ensures
    (c.in_ok-push_with_commas-2.ensures
    ∙ (λ i. t2
    ++ printed (map with_comma (c.in_ok-counts.ensures i ∷ c.in_ok-payout.ensures i ∷ []))))
