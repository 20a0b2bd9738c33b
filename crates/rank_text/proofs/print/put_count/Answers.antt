use Rattle.rank_text.proofs.print.put_count.Goals as goal

pub returns-clause-prints : goal.returns-clause-prints
returns-clause-prints g c = c.put_line.ensures.prints _ c.count_line-made.ensures
