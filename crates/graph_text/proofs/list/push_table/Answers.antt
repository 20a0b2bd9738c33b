use Rattle.std.proofs.Common.{◌++◌, ℕ, List, string_bytes}
use Rattle.report_amounts.specs.report_rules.Graph.{list_head, listed_lines, list_end}
use Rattle.graph_text.proofs.Lines.{part_printed}
use Rattle.graph_text.proofs.list.push_table.Goals as goal

pub returns : goal.returns
returns c =
    let t1 = string_bytes c.push_str.new.self in
    let t3 = string_bytes c.push_str-2.new.self in
    let lines : List (List ℕ) =
    listed_lines c.args.problem.now c.args.first.now 1 c.args.networks.now in
    part_printed list_head (lines ++ list_end) (string_bytes c.args.text.now) t1 t3
    c.in_ok-push_str.ensures.bytes
    (part_printed lines list_end t1 (string_bytes c.push_listed.new.text) t3
    c.in_ok-push_listed.ensures c.in_ok-push_str-2.ensures.bytes)
