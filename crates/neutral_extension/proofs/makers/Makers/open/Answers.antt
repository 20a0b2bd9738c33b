use Rattle.std.proofs.Common.{ℕ, List, sym, subst, arith}
use Rattle.pgraph.specs.Tables.{shape}
use Rattle.neutral_extension.specs.Candidates.{AreMakersOf}
use Rattle.neutral_extension.specs.Cells.{IsOrdered}
use Rattle.neutral_extension.proofs.KeptLemmas.{open_all, makers_full}
use Rattle.neutral_extension.proofs.makers.Makers.open.Goals as goal

pub invariant_of-result : goal.invariant_of-result
invariant_of-result c =
    let k = c.in_ok-lists.ensures in
    let few = c.is_proper.ensures.few_materials in
    let size = k.1.count in
    let r = c.in_ok-lists.lists in
    let o = c.in_ok-order.order.items in
    let ok = c.in_ok-order.order.ok in
    let room = c.in_ok-order.ensures.len in
    subst (λ (m : List (List ℕ)). IsOrdered r m o 0) (sym (makers_full r k.0 k.2))
    (open_all r o k.0 k.2 (omega arith) k.1.sets (omega arith))

pub returns-clause-makers : goal.returns-clause-makers
returns-clause-makers c =
    let k = c.in_ok-lists.ensures in
    subst (AreMakersOf (shape c.args.graph.now)) (sym (makers_full c.in_ok-lists.lists k.0 k.2)) k.1
