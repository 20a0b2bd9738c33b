use Rattle.std.proofs.Common.{◌∙◌, List, ℕ}
use Rattle.text_lines.specs.text_rules.Line.{Placed, head_of}
use Rattle.text_lines.specs.View.{texts}
use Rattle.pns_text.proofs.Gathered.{bare_more, not_bare, text_pushed}
use Rattle.pns_text.proofs.value.push_bare_names.Goals as goal
use Rattle.pns_text.proofs.value.push_bare_names.Goals.{then-is_bare+in_ok-push, else-is_bare}

abbrev head : Placed → List ℕ
head line = head_of line.text

pub loop-line-preserved : goal.loop-line-preserved
loop-line-preserved c = elim c.if-is_bare.branch [
  | then-is_bare+in_ok-push w ↦
      (λ k. texts (w.all-is k).items)
      ∙ bare_more head c.args.units.now c.args.lines.now c.loop-line.line-index c.line-item.result
      (texts c.args.all.now.items) _ _ w.head.result.now c.loop-line-test.true c.line-item.is
      w.if-is_bare.ensures
      (text_pushed c.loop-line.all.items w.push.new.self.items w.head.result
      w.in_ok-push.ensures.items) w.head.ensures c.loop-line.invariant
  | else-is_bare w ↦
      (λ k. texts (w.all-is k).items)
      ∙ not_bare head c.args.units.now c.args.lines.now c.loop-line.line-index c.line-item.result
      (texts c.args.all.now.items) _ c.loop-line-test.true c.line-item.is w.if-is_bare.ensures
      c.loop-line.invariant
]
