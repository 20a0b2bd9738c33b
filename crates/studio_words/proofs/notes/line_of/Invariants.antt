use Rattle.studio_rules.specs.Seconds.{IsSecond}
use Rattle.studio_words.proofs.notes.line_of.Given as goal

-- the line is a second line so far
abbrev pub invariant-pieces : goal.invariant-pieces
invariant-pieces l = IsSecond l.line.items
