use Rattle.std.proofs.Common.{ℕ}
use Rattle.charges.specs.pgraph.Tables.{shape}
use Rattle.cert_check.proofs.SetLemmas.{left_is}
use Rattle.cert_check.proofs.materials.users_left.Goals as goal

pub returns : goal.returns
returns c =
    left_is c.minus.result c.consumers.result c.args.node.now.outside
    (λ (u : ℕ). (shape c.args.graph.now).uses u c.args.x) c.minus.ensures c.consumers.ensures
