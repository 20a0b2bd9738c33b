use Rattle.std.proofs.Common.{◌++◌, ◌∙◌, ap, ℕ, List, Option, codes, string_bytes}
use Rattle.report_amounts.specs.report_rules.Measures.{time_words}
use Rattle.report_tables.proofs.Pieces.{after_three}
use Rattle.report_tables.proofs.text.push_time.Goals as goal

pub returns : goal.returns
returns c =
    let t1 = string_bytes c.push_str.new.self in
    let t2 = string_bytes c.push_time.new.text in
    after_three (string_bytes c.args.text.now) t1 t2 (string_bytes c.push_str-2.new.self)
    (codes "Money is for ") (time_words c.args.measures.now.time)
    (codes ": costs are above 0, incomes below.") c.in_ok-push_str.ensures.bytes
    (c.in_ok-push_time.ensures
    ∙ ap (λ (m : Option (List ℕ)). t1 ++ time_words m) c.time.ensures)
    c.in_ok-push_str-2.ensures.bytes
