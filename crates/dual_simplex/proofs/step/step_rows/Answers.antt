use Rattle.std.proofs.Common.{rules, ◌≡◌, ◌+◌, sym, subst, ap, ◌∙◌, ℕ, ℤ, List, true, false, get_or}
use Rattle.dual_simplex.proofs.StepLemmas.{IsSteppedTo, one_more, none_more}
use Rattle.dual_simplex.proofs.step.step_rows.Goals as goal
use Rattle.dual_simplex.proofs.step.step_rows.Goals.{then-basic-c+then-c-l+in_default, else-basic-c}
use Rattle.dual_simplex.proofs.step.step_rows.Goals.{else-basic-c-via-then-basic-c+else-c-l}
use Rattle.dual_simplex.proofs.step.step_rows.Goals.{else-basic-c-via-else-basic-c}

pub loop-c-preserved : goal.loop-c-preserved
loop-c-preserved c =
    let w = c.args.width in
    let flags = c.args.basic.now in
    let old = c.args.entries.now in
    let at = c.loop-c.c in
    let es = c.loop-c.entries in
    let same =
    λ (next : List ℤ). IsSteppedTo w flags old c.args.pivot.now c.args.l c.args.e next
    (at + 1) in
    elim c.if-basic-c.branch [
      | then-basic-c+then-c-l+in_default t ↦
          subst same (sym t.entries-is)
          (one_more w flags old c.args.pivot.now c.args.l c.args.e es at c.loop-c.invariant
          t.step_row.new.entries t.in_default.ensures.length t.in_default.ensures.done
          t.in_default.ensures.others t.in_default.ensures.in_range)
      | else-basic-c t ↦
          subst same (sym t.entries-is)
          (none_more w flags old c.args.pivot.now c.args.l c.args.e es at c.loop-c.invariant
          (elim t.else-basic-c.branch [
            | else-basic-c-via-then-basic-c+else-c-l u ↦ λ f ne. ne u.if-c-l.false
            | else-basic-c-via-else-basic-c u ↦ λ f ne. let g = u.if-basic-c.false in cc
          ]))
    ]
