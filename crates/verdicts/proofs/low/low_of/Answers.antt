use Rattle.std.proofs.Common.{◌≡◌, List, ap, ◌∙◌}
use Rattle.tree_parts.specs.cert_check.declared.open_leaf.OpenLeaf.{OpenLeaf}
use Rattle.tree_parts.specs.cert_check.OpenLeaves.{leaves_at}
use Rattle.tree_parts.specs.branch_tree.View.{claim_of}
use Rattle.verdicts.proofs.LowLemmas.{is_low, enough}
use Rattle.verdicts.proofs.low.low_of.Goals as goal

pub lower_bound-requires-clause-leaves : goal.lower_bound-requires-clause-leaves
lower_bound-requires-clause-leaves c =
    ap (λ (ls : List OpenLeaf). leaves_at ls) c.deref.ensures.value ∙ c.in-Ok.ensures.leaves

pub returns-in-Ok-clause-low : goal.returns-in-Ok-clause-low
returns-in-Ok-clause-low c =
    is_low c.args.site.now (claim_of c.args.claim.now) c.args.tree.now c.in-Ok.ensures.partial
    c.lower_bound.result c.lower_bound.ensures

pub returns-in-Ok-clause-enough : goal.returns-in-Ok-clause-enough
returns-in-Ok-clause-enough c =
    enough c.lower_bound_holds.ensures.all c.args.site.now c.problem.ensures.valid
    (claim_of c.args.claim.now) c.args.tree.now c.lower_bound.result
    (is_low c.args.site.now (claim_of c.args.claim.now) c.args.tree.now c.in-Ok.ensures.partial
    c.lower_bound.result c.lower_bound.ensures)
