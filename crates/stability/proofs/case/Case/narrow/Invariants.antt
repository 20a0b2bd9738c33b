use Rattle.std.proofs.Common.{◌-◌}
use Rattle.stability.specs.Desk.{IsDesk}
use Rattle.stability.specs.Side.{IsBracket}
use Rattle.stability.proofs.case.Case.narrow.Given as goal

abbrev pub invariant-narrowing : goal.invariant-narrowing
invariant-narrowing g l = IsBracket l.self l.side l.bracket × IsDesk l.self l.desk

abbrev pub decreases-narrowing : goal.decreases-narrowing
decreases-narrowing g l = l.bracket.bad - l.bracket.good
