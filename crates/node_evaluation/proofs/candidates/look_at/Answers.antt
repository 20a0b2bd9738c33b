use Rattle.std.proofs.Common.{sym, subst, inl, inr}
use Rattle.structure_list.specs.number_sets.Sets.{has, IsSet}
use Rattle.structure_list.specs.pns_rules.Nodes.{free_makers}
use Rattle.structure_list.specs.pgraph.Tables.{shape}
use Rattle.structure_list.specs.pgraph.View.{node_of}
use Rattle.node_evaluation.specs.Choices.{IsDecisive}
use Rattle.node_evaluation.specs.declared.candidates.Candidate.{Candidate}
use Rattle.node_evaluation.proofs.BranchChoiceLemmas.{decisive_from, within_first, within_rest}
use Rattle.node_evaluation.proofs.candidates.look_at.Goals as goal

pub score-score-requires : goal.score-score-requires
score-score-requires c =
    (subst (IsSet 128) c.in-Some.ensures.steps c.loop-unit.invariant.is_set).below.0

pub loop-unit-preserved : goal.loop-unit-preserved
loop-unit-preserved c =
    let g = shape c.args.graph.now in
    let n = node_of c.args.node.now in
    let u = c.in-Some.unit in
    let left = c.loop-unit.unit-iterator in
    let inv = c.loop-unit.invariant in
    let before = subst (IsSet 128) c.in-Some.ensures.steps inv.is_set in
    let here =
    within_first (has (free_makers g n c.args.x)) left u c.next.new.self inv.within
    c.in-Some.ensures.steps in
    let P : Candidate → Type 0 = λ k. IsDecisive g n k.unit in
    record {
      is_set = record { rising = before.rising.1; below = before.below.1 };
      within =
          within_rest (has (free_makers g n c.args.x)) left u c.next.new.self inv.within
          c.in-Some.ensures.steps;
      decisive = elim c.better-best.ensures [
        | inl e ↦ subst P (sym e) inv.decisive
        | inr e ↦ subst P (sym e) (decisive_from g n c.args.x u c.requires.needed here)
      ];
    }
