use Rattle.std.proofs.Common.{◌≡◌, ◌∙◌, sym, true, false, rules}
use Rattle.report_tables.proofs.LeafLists.{found_one, found_none}
use Rattle.report_tables.proofs.leaves.push_refuted.Goals as goal

pub returns-then-not-is_refuted : goal.returns-then-not-is_refuted
returns-then-not-is_refuted c =
    let other : c.is_refuted.result ≡ false = search rules in
    found_none c.args.nodes.now c.args.found.now.items c.args.leaf.now
    (sym c.is_refuted.ensures ∙ other)

pub returns : goal.returns
returns c =
    let refuted : c.is_refuted.result ≡ true = search rules in
    found_one c.args.nodes.now c.args.found.now.items c.push.new.self.items c.args.leaf.now
    c.in_ok-push.ensures.items (sym c.is_refuted.ensures ∙ refuted)
