use Rattle.std.proofs.Common.{drop, map}
use Rattle.rank_text.specs.problem_rules.Each.{Each}
use Rattle.rank_text.specs.rank_check.View.{mark_of}
use Rattle.rank_commands.specs.Normal.{IsMarkInRange}
use Rattle.rank_commands.proofs.ranking.marks_are_in_range.Given as goal

-- the marks before the index are in range, so all are if those that follow are
abbrev pub invariant-marks : goal.invariant-marks
invariant-marks l = Each IsMarkInRange (map mark_of
    (drop l.mark-index l.marks)) → Each IsMarkInRange (map mark_of l.marks)
