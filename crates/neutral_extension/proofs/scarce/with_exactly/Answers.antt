use Rattle.neutral_extension.proofs.LeafLemmas.{with_is, without_is}
use Rattle.neutral_extension.proofs.scarce.with_exactly.Goals as goal

pub returns-then-belongs : goal.returns-then-belongs
returns-then-belongs c =
    λ y. with_is c.args.x y c.args.belongs c.args.set c.with.result c.if-belongs.true c.with.ensures

pub returns-else-belongs : goal.returns-else-belongs
returns-else-belongs c =
    λ y. without_is c.args.x y c.args.belongs c.args.set c.without.result c.if-belongs.false
    c.without.ensures
