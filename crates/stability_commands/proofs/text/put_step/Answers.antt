use Rattle.std.proofs.Common.{◌∷◌, [], ◌∙◌, codes, decimal}
use Rattle.stability_commands.proofs.text.put_step.Goals as goal

pub returns-in-Ok-clause-prints : goal.returns-in-Ok-clause-prints
returns-in-Ok-clause-prints g c =
    c.put.ensures.prints (codes "place" ∷ codes "cost" ∷ decimal c.args.at ∷ [])
    (c.as_bytes.ensures.value ∙ c.in-Ok.ensures)
