use Rattle.rank_text.proofs.read.read_counted.Goals as goal

pub returns-in-Ok-clause-fault : goal.returns-in-Ok-clause-fault
returns-in-Ok-clause-fault c =
    rw (
      c.in-Some.ensures.line,
      ← c.count_line.ensures.value,
      c.in-Ok.is,
      ← c.in-Some.ensures.number,
    ) c.read_asked.ensures.fault
