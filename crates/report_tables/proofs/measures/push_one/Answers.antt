use Rattle.std.proofs.Common.{codes, string_bytes}
use Rattle.report_tables.proofs.Pieces.{after}
use Rattle.report_tables.proofs.measures.push_one.Goals as goal

pub returns : goal.returns
returns c =
    after (string_bytes c.args.text.now) (string_bytes c.push_str.new.self)
    (string_bytes c.push_str-2.new.self) (codes "1 ") c.args.measure.now
    c.in_ok-push_str.ensures.bytes c.in_ok-push_str-2.ensures.bytes
