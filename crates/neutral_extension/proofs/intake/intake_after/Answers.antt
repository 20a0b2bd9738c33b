use Rattle.std.proofs.Common.{ℕ, Bool, subst}
use Rattle.pgraph.specs.Tables.{shape}
use Rattle.neutral_extension.specs.OpenLeaf.{IsIntake}
use Rattle.neutral_extension.proofs.LeafLemmas.{none_more, more_within, used_more, made_more}
use Rattle.neutral_extension.proofs.intake.intake_after.Goals as goal

pub returns-then-is_empty : goal.returns-then-is_empty
returns-then-is_empty c =
    subst (λ (o : ℕ → Bool). IsIntake (shape c.args.graph.now) o c.args.intake.now)
    (none_more c.args.units c.args.before c.minus-more.result c.minus-more.ensures c.requires.grown
    (c.is_empty.ensures.0 c.if-is_empty.true)) c.requires.before

pub used-requires : goal.used-requires
used-requires c =
    λ u h. c.requires.known u
    (more_within c.args.units c.args.before c.minus-more.result c.minus-more.ensures
    c.requires.grown u h)

pub made-requires : goal.made-requires
made-requires c =
    λ u h. c.requires.known u
    (more_within c.args.units c.args.before c.minus-more.result c.minus-more.ensures
    c.requires.grown u h)

pub intake_with-requires-clause-used : goal.intake_with-requires-clause-used
intake_with-requires-clause-used c =
    used_more c.args.units c.args.before c.minus-more.result c.minus-more.ensures c.requires.grown
    (shape c.args.graph.now) c.union-used.result c.args.intake.now.used c.used.result
    c.union-used.ensures c.requires.before.used c.used.ensures

pub intake_with-requires-clause-made : goal.intake_with-requires-clause-made
intake_with-requires-clause-made c =
    made_more c.args.units c.args.before c.minus-more.result c.minus-more.ensures c.requires.grown
    (shape c.args.graph.now) c.union-made.result c.args.intake.now.made c.made.result
    c.union-made.ensures c.requires.before.made c.made.ensures
