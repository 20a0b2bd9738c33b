use Rattle.std.proofs.Common.{◌∷◌}
use Rattle.tree_text.specs.Fields.{tokens_of}
use Rattle.tree_text.proofs.line.put.Goals as goal

pub returns : goal.returns
returns g c =
    record {
      prints =
          c.put_line.ensures.prints
          (c.args.word.now ∷ tokens_of c.args.problem.now c.args.fields.now)
          c.make-made.ensures;
      later = c.put_line.ensures.later;
    }
