use Rattle.std.proofs.Common.{Option, None, OnOk, IfErr, sym, subst, false}
use Rattle.rank_laws.specs.tree_rules.declared.why.Why.TheVariants as causes
use Rattle.rank_laws.specs.tree_rules.Claim.{CostOver}
use Rattle.cert_check.specs.pgraph.View.{node_of}
use Rattle.rank_laws.specs.rank_rules.declared.why.RankWhy.{RankWhy}
use Rattle.rank_laws.specs.rank_rules.declared.why.RankWhy.TheVariants.{Plain}
use Rattle.rank_laws.specs.rank_rules.Leaf.{LeafPasses, LeafFails}
use Rattle.rank_laws.specs.rank_rules.Marked.{Mark, marked_leaf}
use Rattle.rank_check.specs.Marks.{MarkFails}
use Rattle.rank_check.proofs.TurnLemmas.{mark_here, mark_none, open_fails}
use Rattle.rank_check.proofs.marks.judge_mark_at.Goals as goal

pub returns-then-at-marks-clause-passes : goal.returns-then-at-marks-clause-passes
returns-then-at-marks-clause-passes c =
    subst
    (λ (m : Mark). OnOk c.judge_mark.result
    ((undercut : Option CostOver)
    → LeafPasses c.args.distinct false c.args.site.now c.args.networks.now undercut
    (node_of c.args.node.now)
    (marked_leaf None m)))
    (sym
    (mark_here c.args.marks.now c.args.at c.index-marks-at.result c.if-at-marks.true
    c.index-marks-at.is)) c.judge_mark.ensures.passes

pub returns-then-at-marks-clause-fails : goal.returns-then-at-marks-clause-fails
returns-then-at-marks-clause-fails c =
    subst
    (λ (m : Mark). IfErr c.judge_mark.result
    (λ (why : RankWhy). (undercut : Option CostOver)
    → MarkFails (LeafFails c.args.distinct false c.args.site.now c.args.networks.now undercut)
    (node_of c.args.node.now) m why))
    (sym
    (mark_here c.args.marks.now c.args.at c.index-marks-at.result c.if-at-marks.true
    c.index-marks-at.is)) c.judge_mark.ensures.fails

pub returns-else-at-marks-clause-fails : goal.returns-else-at-marks-clause-fails
returns-else-at-marks-clause-fails c =
    subst (λ (m : Mark). (undercut : Option CostOver)
    → MarkFails (LeafFails c.args.distinct false c.args.site.now c.args.networks.now undercut)
    (node_of c.args.node.now) m (Plain causes.Open))
    (sym (mark_none c.args.marks.now c.args.at c.if-at-marks.false))
    (λ undercut. open_fails c.args.distinct c.args.site.now c.args.networks.now undercut
    (node_of c.args.node.now))
