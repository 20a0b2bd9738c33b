use Rattle.std.proofs.Common.{Option, IfErr, sym, subst, false}
use Rattle.rank_laws.specs.tree_rules.declared.why.Why.TheVariants as causes
use Rattle.rank_laws.specs.tree_rules.Claim.{CostOver}
use Rattle.cert_check.specs.pgraph.View.{node_of}
use Rattle.rank_laws.specs.rank_rules.declared.why.RankWhy.{RankWhy}
use Rattle.rank_laws.specs.rank_rules.declared.why.RankWhy.TheVariants.{Plain}
use Rattle.rank_laws.specs.rank_rules.Networks.{numbered}
use Rattle.rank_laws.specs.rank_rules.Leaf.{LeafFails}
use Rattle.rank_check.specs.declared.mark.Mark.{Mark}
use Rattle.rank_check.specs.declared.mark.Mark.TheVariants.{Named}
use Rattle.rank_check.specs.View.{mark_of, name_of}
use Rattle.rank_check.specs.Marks.{MarkFails, NamedFails}
use Rattle.rank_check.proofs.LeafLemmas.{weaker}
use Rattle.rank_check.proofs.TurnLemmas.{open_fails}
use Rattle.rank_check.proofs.marks.judge_mark.Goals as goal

pub returns-in-Open-clause-fails : goal.returns-in-Open-clause-fails
returns-in-Open-clause-fails c =
    subst (λ (m : Mark). (undercut : Option CostOver)
    → MarkFails (LeafFails c.args.distinct false c.args.site.now c.args.networks.now undercut)
    (node_of c.args.node.now) (mark_of m) (Plain causes.Open)) (sym c.in-Open.is)
    (λ undercut. open_fails c.args.distinct c.args.site.now c.args.networks.now undercut
    (node_of c.args.node.now))

pub returns-in-Named-clause-fails : goal.returns-in-Named-clause-fails
returns-in-Named-clause-fails c =
    subst
    (λ (m : Mark). IfErr c.judge_numbered.result
    (λ (why : RankWhy). (undercut : Option CostOver)
    → MarkFails (LeafFails c.args.distinct false c.args.site.now c.args.networks.now undercut)
    (node_of c.args.node.now) (mark_of m) why)) (sym c.in-Named.is)
    (weaker
    (NamedFails c.args.distinct c.args.site.now
    (numbered c.in-Named.name.network c.args.networks.now) (node_of c.args.node.now)
    (name_of c.in-Named.name))
    (λ (why : RankWhy). (undercut : Option CostOver)
    → MarkFails (LeafFails c.args.distinct false c.args.site.now c.args.networks.now undercut)
    (node_of c.args.node.now) (mark_of (Named c.in-Named.name)) why)
    c.judge_numbered.result (λ why h undercut. h) c.judge_numbered.ensures.fails)
