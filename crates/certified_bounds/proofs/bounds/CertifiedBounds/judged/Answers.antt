use Rattle.certified_bounds.proofs.bounds.CertifiedBounds.judged.Goals as goal

pub returns-in-Row-clause-certified : goal.returns-in-Row-clause-certified
returns-in-Row-clause-certified c = c.refuted.ensures c.args.decided
