use Rattle.std.proofs.Common.{ap, sym, ◌∙◌, ℕ, List}
use Rattle.text_lines.specs.View.{texts}
use Rattle.text_lines.proofs.Naming.{once_from, once-all, once_met, once_new}
use Rattle.text_lines.proofs.name_set.once.Goals as goal

pub loop-name-init : goal.loop-name-init
loop-name-init c =
    ap (λ (set : List (List ℕ)). once_from set (texts c.args.names.now)) c.new-set.ensures
    ∙ once-all (texts c.args.names.now)

pub loop-name-preserved : goal.loop-name-preserved
loop-name-preserved c =
    once_new c.loop-name.set c.add.new.self c.args.names.now c.loop-name.name-index _ _
    c.loop-name-test.true (sym c.if-not-branch.false ∙ c.in_ok-add.ensures.new)
    c.in_ok-add.ensures.added c.loop-name.invariant

pub returns-then-not-branch : goal.returns-then-not-branch
returns-then-not-branch c =
    once_met c.loop-name.set c.args.names.now c.loop-name.name-index _ _ c.loop-name-test.true
    (sym c.if-not-branch.true ∙ c.in_ok-add.ensures.new) c.loop-name.invariant
