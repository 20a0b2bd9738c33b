use Rattle.std.proofs.Common.{◌++◌, ◌∙◌, sym, ap, Option, codes, string_bytes}
use Rattle.verdicts.proofs.pns_problem.Cited.{after}
use Rattle.verdicts.specs.report_rules.Lower.{low_cell}
use Rattle.verdicts.specs.report_rules.declared.lower_bound.LowerBound.{LowerBound}
use Rattle.command_files.specs.studio_rules.Report.{low_words}
use Rattle.network_commands.proofs.verdict_lines.push_low_words.Goals as goal

pub returns : goal.returns
returns c =
    let t = string_bytes c.args.text.now in
    let p = c.args.problem.now in
    after t (string_bytes c.push_str.new.self) (string_bytes c.push_low.new.text)
    (codes ", no network costs less than ") (low_cell p c.in-Some.low)
    c.in_ok-push_str.ensures.bytes c.in_ok-push_low.ensures
    ∙ ap (λ (l : Option LowerBound). t ++ low_words p l) (sym c.in-Some.is)
