-- The lines of a head of the code, as the rules speak of them.
use Rattle.std.specs.Prelude.{List, map}
use Rattle.pgraph.specs.View.{step_of}
use Rattle.tree_rules.specs.Head as rules
use Rattle.branch_tree.specs.declared.line.HeadLine.{HeadLine}
use Rattle.branch_tree.specs.declared.line.HeadLine.TheVariants.{Step, Cap, Out, Trim, Use}

abbrev pub line_of : HeadLine → rules.HeadLine
line_of (Step s) = rules.step (step_of s)
line_of (Cap u size scaled covers) = rules.cap u size scaled.d scaled.ys covers
line_of (Out u scaled covers) = rules.out u scaled.d scaled.ys covers
line_of (Trim u) = rules.trim u
line_of (Use m v x scaled covers) =
    rules.uses (record { of = m; amount = v; worth = x }) scaled.d scaled.ys covers

abbrev pub lines_of : List HeadLine → List rules.HeadLine
lines_of lines = map line_of lines
