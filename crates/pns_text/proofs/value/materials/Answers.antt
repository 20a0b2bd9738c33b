use Rattle.std.proofs.Common.{◌∙◌, []}
use Rattle.text_lines.specs.problem_rules.Problem.{Material}
use Rattle.text_lines.specs.text_rules.declared.Section.TheVariants.{Materials}
use Rattle.text_lines.specs.text_rules.Line.{Placed, head_of, is_at}
use Rattle.text_lines.specs.text_rules.Value.{Settings, material_from, item_fields, fields_at}
use Rattle.pns_text.proofs.Gathered.{one_more, none_more}
use Rattle.pns_text.proofs.value.materials.Goals as goal
use Rattle.pns_text.proofs.value.materials.Goals.{in-Some+in_ok-material+in_ok-push, in_default}

abbrev made : Settings → Placed → Material
made s line = material_from s (head_of line.text) (fields_at line.text)

pub loop-line-preserved : goal.loop-line-preserved
loop-line-preserved c = elim c.match-material_items.branch [
  | in-Some+in_ok-material+in_ok-push w ↦
      (λ k. (w.materials-is k).items)
      ∙ one_more (made c.args.settings.now) (is_at Materials) c.args.lines.now
      c.loop-line.line-index c.line-item.result [] _ _ _ c.loop-line-test.true c.line-item.is
      w.in-Some.ensures.at w.in_ok-push.ensures.items
      (w.in_ok-material.ensures
      ∙ (λ k. material_from c.args.settings.now (w.head.ensures k)
      (item_fields (w.in-Some.ensures.some k)))) c.loop-line.invariant
  | in_default w ↦
      (λ k. (w.materials-is k).items)
      ∙ none_more (made c.args.settings.now) (is_at Materials) c.args.lines.now
      c.loop-line.line-index c.line-item.result [] _ c.loop-line-test.true c.line-item.is
      w.in_default.ensures.at c.loop-line.invariant
]
