use Rattle.std.proofs.Common.{◌≡◌, ◌<◌, ◌^◌, ◌∙◌, ℕ, sym, subst, ap, length, List}
use Rattle.report_rules.specs.tree_rules.Accepted.{Tree}
use Rattle.report_rules.specs.tree_rules.Claim.{Claim, Network}
use Rattle.report_rules.specs.rank_rules.Marked.{marked}
use Rattle.tree_parts.specs.branch_tree.View.{claim_of}
use Rattle.report_rules.specs.RankLow.{best_claim, plain_tree, IsLowerBound}
use Rattle.verdicts.proofs.PlainLemmas.{as_long}
use Rattle.verdicts.proofs.rank_low.rank_low.Goals as goal

pub low_of-requires : goal.low_of-requires
low_of-requires c =
    let t = c.args.text.now in
    record {
      few =
          subst (λ (n : ℕ). n < 2 ^ 32)
          (sym
          (ap (λ (ts : Tree). length ts) c.in_ok-tree.ensures ∙ as_long t.marks t.tree))
          c.requires.few;
    }

pub returns-clause-low : goal.returns-clause-low
returns-clause-low c =
    let p = c.args.site.now in
    let t = c.args.text.now in
    let claim : claim_of c.in_ok-claim.claim ≡ best_claim t.networks =
    c.in_ok-claim.ensures ∙ ap (λ (ws : List Network). best_claim ws) c.networks.ensures in
    subst (λ (k : Claim). IsLowerBound p k (plain_tree (marked t.marks t.tree)) c.in_ok-low.low)
    claim
    (subst (λ (ts : Tree). IsLowerBound p (claim_of c.in_ok-claim.claim) ts c.in_ok-low.low)
    c.in_ok-tree.ensures c.in_ok-low.ensures.low)
