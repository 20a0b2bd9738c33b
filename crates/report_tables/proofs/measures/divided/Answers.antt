use Rattle.std.proofs.Common.{◌++◌, codes, string_bytes}
use Rattle.report_tables.proofs.Pieces.{after, row_of}
use Rattle.report_tables.proofs.measures.divided.Goals as goal

pub returns : goal.returns
returns c =
    let t1 = string_bytes c.in_ok-text.text in
    let t3 = string_bytes c.push_str-2.new.self in
    row_of t1 t3 c.args.money.now (codes "/" ++ c.args.mass.now) c.in_ok-text.ensures.ok
    (after t1 (string_bytes c.push_str.new.self) t3 (codes "/") c.args.mass.now
    c.in_ok-push_str.ensures.bytes c.in_ok-push_str-2.ensures.bytes)
