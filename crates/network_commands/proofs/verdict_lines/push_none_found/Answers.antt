use Rattle.std.proofs.Common.{codes, string_bytes}
use Rattle.verdicts.proofs.pns_problem.Cited.{after}
use Rattle.command_files.specs.studio_rules.Report.{low_words}
use Rattle.network_commands.proofs.verdict_lines.push_none_found.Goals as goal

pub returns : goal.returns
returns c =
    after (string_bytes c.args.text.now) (string_bytes c.push_str.new.self)
    (string_bytes c.push_low_words.new.text) (codes "NOT FINISHED: no network found so far")
    (low_words c.args.problem.now c.args.low)
    c.in_ok-push_str.ensures.bytes c.in_ok-push_low_words.ensures
