use Rattle.std.proofs.Common.{◌∙◌, List, [], ℕ}
use Rattle.text_lines.specs.problem_rules.Problem.{OperatingUnit}
use Rattle.text_lines.specs.text_rules.Line.{Placed, head_of}
use Rattle.text_lines.specs.text_rules.Value.{Settings, unit_from, sides_named}
use Rattle.pns_text.proofs.Gathered.{is_bare, bare_more, not_bare}
use Rattle.pns_text.proofs.value.push_bare_units.Goals as goal
use Rattle.pns_text.proofs.value.push_bare_units.Goals.{in-Some+in_ok-unit+in_ok-push, in_default}

abbrev named : Settings → List (List ℕ) → List Placed → List ℕ → OperatingUnit
named s names lines name =
    unit_from s name [] (sides_named names lines name).0 (sides_named names lines name).1

abbrev made : Settings → List (List ℕ) → List Placed → Placed → OperatingUnit
made s names lines line = named s names lines (head_of line.text)

pub loop-line-preserved : goal.loop-line-preserved
loop-line-preserved c = elim c.match-bare_name.branch [
  | in-Some+in_ok-unit+in_ok-push w ↦
      (λ k. (w.units-is k).items)
      ∙ bare_more (made c.args.settings.now c.args.names.now.materials c.args.lines.now)
      c.args.names.now.units c.args.lines.now c.loop-line.line-index c.line-item.result
      c.args.units.now.items _ _ _ c.loop-line-test.true c.line-item.is
      (w.in-Some.ensures.at ∙ (λ k. is_bare (c.names.view_is k).units c.line-item.result))
      w.in_ok-push.ensures.items
      (w.in_ok-unit.ensures
      ∙ (λ k. named c.args.settings.now (c.names.view_is k).materials c.args.lines.now
      (w.in-Some.ensures.some k))) c.loop-line.invariant
  | in_default w ↦
      (λ k. (w.units-is k).items)
      ∙ not_bare (made c.args.settings.now c.args.names.now.materials c.args.lines.now)
      c.args.names.now.units c.args.lines.now c.loop-line.line-index c.line-item.result
      c.args.units.now.items _ c.loop-line-test.true c.line-item.is
      (w.in_default.ensures.at ∙ (λ k. is_bare (c.names.view_is k).units c.line-item.result))
      c.loop-line.invariant
]
