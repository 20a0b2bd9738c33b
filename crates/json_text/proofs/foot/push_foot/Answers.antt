use Rattle.std.proofs.Common.{◌∷◌, [], ◌++◌, ◌∙◌, ap, map, ℕ, List}
use Rattle.tree_reading.specs.pns_problem.Printing.{printed}
use Rattle.report_rules.specs.Json.{with_comma}
use Rattle.report_rules.specs.Facts.{money_member, once_member, left_out_member}
use Rattle.json_text.proofs.Pieces.{three_blocks}
use Rattle.json_text.proofs.foot.push_foot.Goals as goal

pub units_member-requires : goal.units_member-requires
units_member-requires c = c.requires.feasible.structure.s3

pub returns : goal.returns
returns c =
    let p = c.args.site.now in
    let w = c.args.network.now in
    let t0 = c.args.text.now.items in
    let t1 = c.push_with_commas.new.text.items in
    let t2 = c.push_line.new.text.items in
    three_blocks t0 t1 t2 c.push_line-2.new.text.items
    (with_comma (money_member p w) ∷ with_comma (once_member p w) ∷ [])
    (left_out_member p w ∷ []) ((125 ∷ []) ∷ [])
    (c.in_ok-push_with_commas.ensures
    ∙ (λ i. t0
    ++ printed (map with_comma (c.in_ok-money.ensures i ∷ c.in_ok-once.ensures i ∷ []))))
    (c.in_ok-push_line.ensures
    ∙ ap (λ (line : List ℕ). t1 ++ printed (line ∷ []))
    (c.bytes.ensures ∙ c.in_ok-left_out.ensures))
    c.in_ok-push_line-2.ensures
