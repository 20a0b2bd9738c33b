use Rattle.report_amounts.proofs.six.+places_behind.Given as goal

abbrev pub decreases-places_behind : goal.decreases-places_behind
decreases-places_behind l = l.count
