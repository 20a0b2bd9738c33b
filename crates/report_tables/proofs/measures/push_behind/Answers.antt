use Rattle.std.proofs.Common.{codes, string_bytes}
use Rattle.report_tables.proofs.Pieces.{after_four}
use Rattle.report_tables.proofs.measures.push_behind.Goals as goal

pub returns : goal.returns
returns c =
    after_four (string_bytes c.args.text.now) (string_bytes c.push_str.new.self)
    (string_bytes c.push_str-2.new.self) (string_bytes c.push_str-3.new.self)
    (string_bytes c.push_str-4.new.self) c.args.words.now (codes " [") c.args.measure.now
    (codes "]") c.in_ok-push_str.ensures.bytes c.in_ok-push_str-2.ensures.bytes
    c.in_ok-push_str-3.ensures.bytes c.in_ok-push_str-4.ensures.bytes
