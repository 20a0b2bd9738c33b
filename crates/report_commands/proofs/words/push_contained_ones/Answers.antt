use Rattle.std.proofs.Common.{◌++◌, codes, string_bytes}
use Rattle.std.specs.Prelude.{decimal}
use Rattle.rank_text.proofs.pns_problem.Cited.{after}
use Rattle.report_commands.proofs.words.push_contained_ones.Goals as goal

pub returns : goal.returns
returns c =
    let t1 = string_bytes c.push_str.new.self in
    let t3 = string_bytes c.push_str-2.new.self in
    let number = decimal c.args.found in
    let last = codes ", and costs no less" in
    after (string_bytes c.args.text.now) t1 t3
    (codes "PROVED: each network with flows contains one of these ") (number ++ last)
    c.in_ok-push_str.ensures.bytes
    (after t1 (string_bytes c.write.new.self) t3 number last c.in_ok-write.ensures.bytes
    c.in_ok-push_str-2.ensures.bytes)
