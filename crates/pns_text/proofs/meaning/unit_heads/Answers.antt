use Rattle.std.proofs.Common.{◌∙◌, [], List, ℕ}
use Rattle.text_lines.specs.text_rules.declared.Section.TheVariants.{OperatingUnits}
use Rattle.text_lines.specs.text_rules.Line.{Placed, head_of, is_at}
use Rattle.text_lines.specs.View.{texts}
use Rattle.pns_text.proofs.Gathered.{one_more, none_more, text_pushed}
use Rattle.pns_text.proofs.meaning.unit_heads.Goals as goal
use Rattle.pns_text.proofs.meaning.unit_heads.Goals.{in-Some+in_ok-push, in_default}

abbrev head : Placed → List ℕ
head line = head_of line.text

pub loop-line-preserved : goal.loop-line-preserved
loop-line-preserved c = elim c.match-unit_items.branch [
  | in-Some+in_ok-push w ↦
      (λ k. texts (w.heads-is k).items)
      ∙ one_more head (is_at OperatingUnits) c.args.lines.now c.loop-line.line-index
      c.line-item.result [] _ _ w.head.result.now c.loop-line-test.true c.line-item.is
      w.in-Some.ensures.at
      (text_pushed c.loop-line.heads.items w.push.new.self.items w.head.result
      w.in_ok-push.ensures.items) w.head.ensures c.loop-line.invariant
  | in_default w ↦
      (λ k. texts (w.heads-is k).items)
      ∙ none_more head (is_at OperatingUnits) c.args.lines.now c.loop-line.line-index
      c.line-item.result [] _ c.loop-line-test.true c.line-item.is w.in_default.ensures.at
      c.loop-line.invariant
]
