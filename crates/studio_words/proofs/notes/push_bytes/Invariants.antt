use Rattle.studio_rules.specs.Seconds.{IsSecond}
use Rattle.studio_words.proofs.notes.push_bytes.Given as goal

-- the line is a second line so far
abbrev pub invariant-pushing : goal.invariant-pushing
invariant-pushing l = IsSecond l.line.items
