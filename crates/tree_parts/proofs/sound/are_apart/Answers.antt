use Rattle.cert_check.proofs.Cited.{apart_is}
use Rattle.tree_parts.proofs.sound.are_apart.Goals as goal

pub returns : goal.returns
returns c =
    let k = apart_is c.args.a c.args.b c.meet.result c.meet.ensures in
    ((λ h. k.0 (c.is_empty.ensures.0 h)), (λ h. c.is_empty.ensures.1 (k.1 h)))
