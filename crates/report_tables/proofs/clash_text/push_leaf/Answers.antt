use Rattle.std.proofs.Common.{◌++◌, ◌∙◌, ap, ℕ, List, string_bytes, arith, ℤ, subst, sym}
use Rattle.std.specs.Prelude.{slice_get}
use Rattle.cert_check.specs.pns_problem.Printing.{printed}
use Rattle.cert_check.specs.tree_rules.Leaf.{IsRefuted}
use Rattle.report_tables.specs.Opened.{ys_in}
use Rattle.cert_check.specs.pgraph.View.{node_of}
use Rattle.cert_check.specs.tree_rules.Leaf.{multiplier}
use Rattle.report_amounts.specs.report_rules.Clash.{node_line, material_lines, unit_lines}
use Rattle.report_tables.proofs.Appended.{gap_and_more}
use Rattle.report_tables.proofs.clash_text.push_leaf.Goals as goal

pub push_bounds-requires-clause-refuted : goal.push_bounds-requires-clause-refuted
push_bounds-requires-clause-refuted c =
    subst (λ (zs : List ℤ). IsRefuted c.args.site.now (node_of c.args.leaf.now.node) zs)
    (sym c.multipliers_at.ensures) c.requires.refuted

pub returns : goal.returns
returns c =
    let p = c.args.site.now in
    let l = c.args.leaf.now in
    let n = node_of l.node in
    let ys = ys_in (slice_get c.args.nodes.now l.number) in
    let y = multiplier p n ys in
    let t0 = string_bytes c.args.text.now in
    let t2 = string_bytes c.push_node.new.text in
    gap_and_more t0 (string_bytes c.push.new.self) t2 (string_bytes c.push-2.new.self)
    (string_bytes c.push_bounds.new.text)
    (node_line p l.number n) (material_lines p n y ++ unit_lines p n y)
    (c.in_ok-push.ensures.bytes
    ∙ ap (λ (t : List ℕ). t0 ++ t) (c.in_ok-push.ensures.ascii (omega arith)))
    c.in_ok-push_node.ensures
    (c.in_ok-push-2.ensures.bytes
    ∙ ap (λ (t : List ℕ). t2 ++ t) (c.in_ok-push-2.ensures.ascii (omega arith)))
    (c.in_ok-push_bounds.ensures
    ∙ ap (λ (zs : List ℤ). string_bytes c.push-2.new.self
    ++ printed (material_lines p n (multiplier p n zs) ++ unit_lines p n (multiplier p n zs)))
    c.multipliers_at.ensures)
