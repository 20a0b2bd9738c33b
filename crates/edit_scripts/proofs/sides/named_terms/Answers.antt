use Rattle.std.proofs.Common.{rules}
use Rattle.edit_scripts.proofs.BothSides.{named}
use Rattle.edit_scripts.proofs.sides.named_terms.Goals as goal

pub naming-preserved : goal.naming-preserved
naming-preserved c =
    named c.args.terms.now c.naming.term-index _ c.naming.named.items c.push.new.self.items _ _
    c.naming-test.true c.naming.invariant c.in_ok-push.ensures.items c.in_ok-name_string.ensures
    (search rules)
