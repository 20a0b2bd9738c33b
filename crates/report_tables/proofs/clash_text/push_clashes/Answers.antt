use Rattle.std.proofs.Common.{◌++◌, ◌∙◌, ap, sym, ℕ, List, length, string_bytes}
use Rattle.std.proofs.Common.{arith, append-nil}
use Rattle.std.specs.Prelude.{flat_map}
use Rattle.cert_check.specs.pns_problem.Printing.{printed}
use Rattle.report_amounts.specs.report_rules.Clash.{leaf_lines, count_line}
use Rattle.report_tables.specs.View.{leaves_of}
use Rattle.report_tables.proofs.LeafLines.{empty_leaves, some_leaf, clashes_are, good_shown}
use Rattle.report_tables.proofs.Appended.{line_and_more}
use Rattle.report_tables.proofs.clash_text.push_clashes.Goals as goal

pub returns-then-is_empty : goal.returns-then-is_empty
returns-then-is_empty c =
    sym (append-nil (string_bytes c.args.text.now))
    ∙ ap (λ (ls : List (List ℕ)). string_bytes c.args.text.now ++ printed ls)
    (empty_leaves c.args.site.now c.args.nodes.now c.args.leaves.now
    (sym c.is_empty.ensures ∙ c.if-is_empty.true))

pub push_leaves-requires : goal.push_leaves-requires
push_leaves-requires c =
    good_shown c.args.site.now c.args.nodes.now c.args.leaves.now c.first_ten-shown.result.now
    c.first_ten-shown.ensures c.requires

pub returns : goal.returns
returns c =
    let p = c.args.site.now in
    let shown = c.first_ten-shown.result.now in
    let t0 = string_bytes c.args.text.now in
    let t1 = string_bytes c.push_count.new.text in
    line_and_more t0 t1 (string_bytes c.push.new.self) (string_bytes c.push_leaves.new.text)
    (count_line (length shown) (length c.args.leaves.now))
    (flat_map (leaf_lines p) (leaves_of c.args.nodes.now shown))
    c.in_ok-push_count.ensures
    (c.in_ok-push.ensures.bytes
    ∙ ap (λ (t : List ℕ). t1 ++ t) (c.in_ok-push.ensures.ascii (omega arith)))
    c.in_ok-push_leaves.ensures
    ∙ ap (λ (ls : List (List ℕ)). t0 ++ printed ls)
    (clashes_are p c.args.nodes.now c.args.leaves.now shown c.first_ten-shown.ensures
    (some_leaf c.args.leaves.now (sym c.is_empty.ensures ∙ c.if-is_empty.false)))
