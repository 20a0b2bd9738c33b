use Rattle.std.proofs.Common.{◌≡◌, ◌≤◌, ◌+◌, length}
use Rattle.tree_text_laws.specs.problem_rules.Each.{Each}
use Rattle.tree_reading.specs.Place.{IsReached, lines_at}
use Rattle.rank_check.specs.Known.{KnowsNetwork}
use Rattle.rank_check.specs.rank_rules.Read.{networks_taken}
use Rattle.rank_text.proofs.Together.{with_networks}
use Rattle.rank_text.proofs.networks.read_networks.Given as goal

-- the networks so far and those that are left give the whole list
abbrev pub invariant-reading : goal.invariant-reading
invariant-reading l = record {
  leads : with_networks l.networks.items
      (networks_taken l.problem l.left l.at.line (lines_at l.bytes l.at))
      ≡ networks_taken l.problem l.count l.fn.cut.line (lines_at l.bytes l.fn.cut);
  later : l.fn.cut.line ≤ l.at.line;
  reached : IsReached l.bytes l.fn.cut l.at;
  count : length l.networks.items + l.left ≡ l.count;
  known : Each (KnowsNetwork l.problem) l.networks.items;
}

abbrev pub decreases-reading : goal.decreases-reading
decreases-reading l = l.left
