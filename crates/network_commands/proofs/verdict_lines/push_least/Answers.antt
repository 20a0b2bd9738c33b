use Rattle.std.proofs.Common.{◌++◌, codes, string_bytes}
use Rattle.verdicts.proofs.pns_problem.Cited.{after}
use Rattle.verdicts.specs.report_rules.Report.{total_cell}
use Rattle.network_commands.proofs.verdict_lines.push_least.Goals as goal

pub returns : goal.returns
returns c =
    let t1 = string_bytes c.push_str.new.self in
    let t3 = string_bytes c.push_str-2.new.self in
    let cost = total_cell c.args.problem.now c.args.network.now in
    let behind = codes ", and no allowed network costs less" in
    after (string_bytes c.args.text.now) t1 t3 (codes "PROVED: this network costs ")
    (cost ++ behind) c.in_ok-push_str.ensures.bytes
    (after t1 (string_bytes c.push_total.new.text) t3 cost behind c.in_ok-push_total.ensures
    c.in_ok-push_str-2.ensures.bytes)
