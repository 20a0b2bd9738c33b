use Rattle.std.proofs.Common.{◌≡◌, ◌∙◌, ℤ, pos, ◌≤ℤ◌, SFits, to_z, of_z, rules, sym, subst}
use Rattle.std.specs.Int.{w128}
use Rattle.std.proofs.lemmas.Int.{to_z-of_z}
use Rattle.report_rules.specs.integer_laws.Range.{InRange}
use Rattle.tree_parts.specs.pgraph.View.{node_of}
use Rattle.verdicts.proofs.LowerLemmas.{never_past, cost_in_range}
use Rattle.verdicts.proofs.lower.bound_by.Goals as goal

pub unreachable-requires : goal.unreachable-requires
unreachable-requires c =
    let fits : SFits w128 c.d-d.result = search rules in
    never_past c.args.site.now c.problem.result.now (node_of c.args.node) c.args.low.now
    (to_z w128 (of_z w128 c.d-d.result)) c.ys.result.now c.problem.ensures.same
    (to_z-of_z w128 c.d-d.result fits ∙ c.d-d.ensures) c.ys.ensures c.requires.formed
    c.in-Err.field-0.at c.in-Err.ensures.past

pub invariant_of-result : goal.invariant_of-result
invariant_of-result c =
    let fits : SFits w128 c.d-d.result = search rules in
    let fits_too : SFits w128 c.in-Ok.cost = search rules in
    let d_is : to_z w128 (of_z w128 c.d-d.result) ≡ c.args.low.now.d =
    to_z-of_z w128 c.d-d.result fits ∙ c.d-d.ensures in
    let range : InRange c.in-Ok.cost =
    cost_in_range c.args.site.now c.problem.result.now (node_of c.args.node) c.args.low.now
    (to_z w128 (of_z w128 c.d-d.result)) c.ys.result.now c.problem.ensures.same d_is c.ys.ensures
    c.requires.formed c.in-Ok.cost c.in-Ok.ensures.value in
    record {
      cost_in_range =
          subst (λ (z : ℤ). InRange z) (sym (to_z-of_z w128 c.in-Ok.cost fits_too)) range;
      d_in_range = subst (λ (z : ℤ). InRange z) (sym d_is) c.are_in_range.ensures.scale;
      positive = subst (λ (z : ℤ). pos 1 ≤ℤ z) (sym d_is) c.requires.formed.positive;
    }
