use Rattle.std.proofs.Common.{List, ℕ, map, subst}
use Rattle.rank_text.specs.problem_rules.Each.{Each}
use Rattle.rank_text.specs.tree_rules.Tree.{IsTree}
use Rattle.rank_text.specs.tree_rules.Claim.{Network}
use Rattle.rank_text.specs.tree_rules.Accepted.{Tree}
use Rattle.rank_text.specs.branch_tree.Sized.{IsKept}
use Rattle.rank_text.specs.tree_rules.Tail.{Tail}
use Rattle.rank_text.specs.tree_text_laws.Fits.{CountsTail}
use Rattle.rank_text.specs.rank_rules.Marked.{Mark}
use Rattle.rank_commands.specs.Normal.{normal, IsMarkInRange}
use Rattle.rank_commands.proofs.Rankings.{fits}
use Rattle.rank_commands.proofs.ranking.reads_back.Goals as goal

pub returns : goal.returns
returns c =
    let p = c.args.problem.now in
    let t = c.args.text.now in
    let whole : IsTree t.tree =
    subst (λ (tree : Tree). IsTree tree) c.tree.ensures c.is_tree.ensures in
    let kept : Each IsKept t.networks =
    subst (λ (ws : List Network). Each IsKept ws) c.networks.ensures
    c.networks_are_kept.ensures in
    let ranged : Each IsMarkInRange t.marks =
    subst (λ (ms : List Mark). Each IsMarkInRange ms) c.marks.ensures
    c.marks_are_in_range.ensures in
    let tail : CountsTail t.tail =
    subst (λ (tail : Tail). CountsTail tail) c.tail.ensures c.tail_is_counted.ensures in
    c.spelled_ranks_read.ensures p c.is_valid.ensures.valid (normal t)
    (fits p t c.requires.known whole c.is_counted.ensures.counted c.count_is_held.ensures
    c.requires.few kept ranged tail)
