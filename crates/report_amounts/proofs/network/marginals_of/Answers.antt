use Rattle.std.proofs.Common.{◌≡◌, sym, subst, ℕ, List, true}
use Rattle.report_rules.specs.number_sets.Sets.{has}
use Rattle.report_rules.specs.pns_rules.Shape.{shape_of}
use Rattle.report_rules.specs.pns_rules.Structure.{IsStructure}
use Rattle.report_rules.specs.flow_rules.Net.{net_of}
use Rattle.report_rules.specs.flow_rules.Flows.{IsFlows}
use Rattle.report_rules.specs.tree_rules.Claim.{size_in}
use Rattle.report_rules.specs.Marginal.{AreMarginals}
use Rattle.report_amounts.proofs.network.marginals_of.Goals as goal

pub flows_of-requires-clause-known : goal.flows_of-requires-clause-known
flows_of-requires-clause-known c u h =
    c.requires.feasible.structure.s3 u
    (subst (λ (us : List ℕ). has us u ≡ true) c.units-set.ensures h)

pub flows_of-requires-clause-structure : goal.flows_of-requires-clause-structure
flows_of-requires-clause-structure c =
    subst (λ (us : List ℕ). IsStructure (shape_of c.args.site.now) (has us))
    (sym c.units-set.ensures) c.requires.feasible.structure

pub marginals_by-requires-clause-known : goal.marginals_by-requires-clause-known
marginals_by-requires-clause-known c u h =
    c.requires.feasible.structure.s3 u
    (subst (λ (us : List ℕ). has us u ≡ true) c.units-set.ensures h)

pub marginals_by-requires-clause-some : goal.marginals_by-requires-clause-some
marginals_by-requires-clause-some c =
    let w = c.args.network.now in (
      size_in w,
      w.d,
      subst (λ (us : List ℕ). IsFlows (net_of c.args.site.now) (has us) (size_in w) w.d)
          (sym c.units-set.ensures) c.requires.feasible.flows,
    )

pub returns : goal.returns
returns c =
    subst (λ (us : List ℕ). AreMarginals c.args.site.now us c.marginals_by.result)
    c.units-set.ensures c.marginals_by.ensures
