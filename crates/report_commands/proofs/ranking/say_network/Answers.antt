use Rattle.network_commands.specs.studio_rules.RankWords.{network_line}
use Rattle.report_commands.proofs.ranking.say_network.Goals as goal

pub returns : goal.returns
returns g c = c.tell_made.ensures (network_line c.args.number c.args.why) c.network_line.ensures
