use Rattle.std.proofs.Common.{List, map, sym, subst}
use Rattle.rank_text.specs.problem_rules.Each.{Each}
use Rattle.rank_text.specs.rank_check.declared.mark.Mark.{Mark}
use Rattle.rank_text.specs.rank_check.View.{mark_of}
use Rattle.rank_commands.specs.Normal.{IsMarkInRange}
use Rattle.rank_text.proofs.tree_text.Cited.{item_ahead}
use Rattle.rank_commands.proofs.ranking.marks_are_in_range.Goals as goal

pub marks-preserved : goal.marks-preserved
marks-preserved c =
    λ rest. c.marks.invariant
    (subst (λ (ms : List Mark). Each IsMarkInRange (map mark_of ms))
    (sym
    (item_ahead c.args.marks.now c.marks.mark-index c.mark-item.result c.marks-test.true
    c.mark-item.is)) (c.mark_is_in_range.ensures, rest))
