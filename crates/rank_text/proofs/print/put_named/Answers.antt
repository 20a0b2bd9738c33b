use Rattle.rank_check.specs.rank_rules.Spelling.{named_line}
use Rattle.rank_text.proofs.print.put_named.Goals as goal

pub returns-clause-prints : goal.returns-clause-prints
returns-clause-prints g c =
    c.put_line.ensures.prints
    (named_line c.args.name.now.way c.args.name.now.network c.args.name.now.scaled.d
    c.args.name.now.scaled.ys) c.named_line-made.ensures
