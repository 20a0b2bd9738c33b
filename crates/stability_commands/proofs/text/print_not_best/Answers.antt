use Rattle.std.proofs.Common.{◌∷◌, [], codes, refl}
use Rattle.stability_commands.proofs.text.print_not_best.Goals as goal

pub returns-clause-prints : goal.returns-clause-prints
returns-clause-prints g c = c.put_headed.ensures.prints (codes "not" ∷ codes "best" ∷ []) refl
