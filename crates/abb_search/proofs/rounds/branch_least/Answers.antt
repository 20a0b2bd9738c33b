use Rattle.std.proofs.Common.{length, true≢false, refl, sym, ap, ◌∙◌, arith}
use Rattle.node_evaluation.specs.declared.choice.Choice.{Choice}
use Rattle.node_evaluation.specs.Choices.{option_count}
use Rattle.abb_search.specs.Growing.{choice_of, ready_at}
use Rattle.abb_search.specs.Rounds.{undercut_of}
use Rattle.abb_search.proofs.TurnLemmas.{there, within_budget}
use Rattle.abb_search.proofs.SameLemmas.{same_refl}
use Rattle.abb_search.proofs.rounds.branch_least.Goals as goal

pub choice_at-choice-requires : goal.choice_at-choice-requires
choice_at-choice-requires g c =
    there c.args.site.now c.problem.ensures.valid c.args.growing.now c.requires.growing c.args.leaf
    c.requires.next.is_open c.is_pool.ensures.payloads c.is_pool.ensures.leaves

pub spend-requires-clause-growing : goal.spend-requires-clause-growing
spend-requires-clause-growing g c =
    (undercut_of c.args.goal.now c.args.growing.now, c.requires.growing)

pub spend-requires-clause-options : goal.spend-requires-clause-options
spend-requires-clause-options g c = c.options-options.ensures
    ∙ ap (λ (m : Choice). option_count m) c.choice_at-choice.ensures

pub spend-requires-clause-over : goal.spend-requires-clause-over
spend-requires-clause-over g c = let o = c.if-is_over.ensures.0 refl in let k =
    c.requires.growing.tree.counted in omega (arith, o, k)

pub returns-clause-holds : goal.returns-clause-holds
returns-clause-holds g c =
    let s = c.args.growing.now in
    let options = c.options-options.ensures
    ∙ ap (λ (m : Choice). option_count m) c.choice_at-choice.ensures in (
      c.requires.next,
      record {
        within =
            within_budget s.budget s.nodes (length s.pool.payloads) c.options-options.result
            (option_count (choice_of (ready_at s c.args.leaf))) c.requires.growing.tree.counted
            options
            (λ h. true≢false (sym (c.if-is_over.ensures.1 h)));
        numbered = omega arith;
      },
    )

pub returns-clause-same : goal.returns-clause-same
returns-clause-same g c = same_refl g.E.Evaluator.past c.args.site.now c.args.growing.now

pub returns-then-is_over-clause-holds : goal.returns-then-is_over-clause-holds
returns-then-is_over-clause-holds g c =
    c.spend.ensures.holds (undercut_of c.args.goal.now c.args.growing.now) c.requires.growing
    c.requires.next
