use Rattle.std.proofs.Common.{◌∙◌, [], List, ℕ}
use Rattle.text_lines.specs.problem_rules.Problem.{OperatingUnit}
use Rattle.text_lines.specs.text_rules.declared.Section.TheVariants.{OperatingUnits}
use Rattle.text_lines.specs.text_rules.Line.{Placed, is_at}
use Rattle.text_lines.specs.text_rules.Value.{Settings, listed_unit, unit_from, item_fields}
use Rattle.text_lines.specs.text_rules.Value.{sides_named}
use Rattle.pns_text.proofs.Gathered.{one_more, none_more}
use Rattle.pns_text.proofs.value.listed_units.Goals as goal
use Rattle.pns_text.proofs.value.listed_units.Goals.{in-Some+in_ok-unit+in_ok-push, in_default}

abbrev made : Settings → List (List ℕ) → List Placed → Placed → OperatingUnit
made s names lines line = listed_unit s names lines line.text

pub loop-line-preserved : goal.loop-line-preserved
loop-line-preserved c = elim c.match-unit_items.branch [
  | in-Some+in_ok-unit+in_ok-push w ↦
      (λ k. (w.units-is k).items)
      ∙ one_more (made c.args.settings.now c.args.names.now c.args.lines.now) (is_at OperatingUnits)
      c.args.lines.now c.loop-line.line-index c.line-item.result [] _ _ _ c.loop-line-test.true
      c.line-item.is w.in-Some.ensures.at w.in_ok-push.ensures.items
      (w.in_ok-unit.ensures
      ∙ (λ k. unit_from c.args.settings.now (w.head.ensures k)
      (item_fields (w.in-Some.ensures.some k))
      (sides_named c.args.names.now c.args.lines.now (w.head.ensures k)).0
      (sides_named c.args.names.now c.args.lines.now (w.head.ensures k)).1))
      c.loop-line.invariant
  | in_default w ↦
      (λ k. (w.units-is k).items)
      ∙ none_more (made c.args.settings.now c.args.names.now c.args.lines.now)
      (is_at OperatingUnits) c.args.lines.now c.loop-line.line-index c.line-item.result [] _
      c.loop-line-test.true c.line-item.is w.in_default.ensures.at c.loop-line.invariant
]
