use Rattle.std.proofs.Common.{◌++◌, ◌∙◌, ap, ℕ, List, codes, string_bytes}
use Rattle.std.specs.Prelude.{decimal}
use Rattle.rank_text.proofs.pns_problem.Cited.{after}
use Rattle.network_commands.specs.studio_rules.RankReport.{listed_word}
use Rattle.report_commands.proofs.words.push_best_ones.Goals as goal

pub returns : goal.returns
returns c =
    let t1 = string_bytes c.push_str.new.self in
    let t2 = string_bytes c.write.new.self in
    let t3 = string_bytes c.push_str-2.new.self in
    let number = decimal c.args.found in
    let last = listed_word c.args.distinct in
    after (string_bytes c.args.text.now) t1 t3 (codes "PROVED: these are the ") (number ++ last)
    c.in_ok-push_str.ensures.bytes
    (after t1 t2 t3 number last c.in_ok-write.ensures.bytes
    (c.in_ok-push_str-2.ensures.bytes
    ∙ ap (λ (t : List ℕ). t2 ++ t) c.listed_word.ensures))
