use Rattle.std.proofs.Common.{◌++◌, codes, string_bytes}
use Rattle.verdicts.proofs.pns_problem.Cited.{after}
use Rattle.verdicts.specs.report_rules.Report.{total_cell}
use Rattle.command_files.specs.studio_rules.Report.{low_words, gap_behind}
use Rattle.network_commands.proofs.verdict_lines.push_best.Goals as goal

pub returns : goal.returns
returns c =
    let t1 = string_bytes c.push_str.new.self in
    let t2 = string_bytes c.push_total.new.text in
    let t3 = string_bytes c.push_low_words.new.text in
    let t4 = string_bytes c.push_gap_behind.new.text in
    let total = total_cell c.args.problem.now c.args.network.now in
    let low = low_words c.args.problem.now c.args.low in
    let gap = gap_behind c.args.network.now c.args.low in
    after (string_bytes c.args.text.now) t1 t4 (codes "NOT FINISHED: best so far ")
    ((total ++ low) ++ gap) c.in_ok-push_str.ensures.bytes
    (after t1 t3 t4 (total ++ low) gap
    (after t1 t2 t3 total low c.in_ok-push_total.ensures c.in_ok-push_low_words.ensures)
    c.in_ok-push_gap_behind.ensures)
