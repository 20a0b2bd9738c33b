use Rattle.std.proofs.Common.{◌++◌, codes, length, string_bytes}
use Rattle.std.specs.Prelude.{decimal}
use Rattle.rank_text.proofs.pns_problem.Cited.{after}
use Rattle.network_commands.specs.studio_rules.Report.{low_words}
use Rattle.network_commands.specs.studio_rules.RankReport.{gap_of_first}
use Rattle.report_commands.proofs.words.push_unfinished.Goals as goal

pub returns : goal.returns
returns c =
    let t1 = string_bytes c.push_str.new.self in
    let t2 = string_bytes c.write.new.self in
    let t3 = string_bytes c.push_str-2.new.self in
    let t4 = string_bytes c.write-2.new.self in
    let t5 = string_bytes c.push_known.new.text in
    let ws = c.args.networks.now in
    let low = c.args.low in
    let node = decimal c.args.node in
    let words = codes " is open; networks so far: " in
    let found = decimal (length ws) in
    let known = low_words c.args.problem.now low ++ gap_of_first ws low in
    after (string_bytes c.args.text.now) t1 t5 (codes "NOT FINISHED: node ")
    (node ++ (words ++ (found ++ known))) c.in_ok-push_str.ensures.bytes
    (after t1 t2 t5 node (words ++ (found ++ known)) c.in_ok-write.ensures.bytes
    (after t2 t3 t5 words (found ++ known) c.in_ok-push_str-2.ensures.bytes
    (after t3 t4 t5 found known c.in_ok-write-2.ensures.bytes c.in_ok-push_known.ensures)))
