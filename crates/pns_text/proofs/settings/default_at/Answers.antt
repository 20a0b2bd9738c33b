use Rattle.std.proofs.Common.{◌&&◌, sym, ◌∙◌}
use Rattle.std.specs.Str.{bytes_eq}
use Rattle.text_lines.specs.text_rules.Field.{key_of}
use Rattle.pns_text.proofs.Gathered.{not_default}
use Rattle.pns_text.proofs.settings.default_at.Goals as goal
use Rattle.pns_text.proofs.settings.default_at.Goals.{else-is_default-via-then-is_default+else-eq}
use Rattle.pns_text.proofs.settings.default_at.Goals.{else-is_default-via-else-is_default}

pub loop-line-preserved : goal.loop-line-preserved
loop-line-preserved c =
    not_default c.args.key.now c.args.lines.now c.loop-line.line-index c.line-item.result
    c.loop-line-test.true c.line-item.is
    (elim c.else-is_default.branch [
      | else-is_default-via-then-is_default+else-eq w ↦
          (λ k. sym w.if-is_default.ensures k && bytes_eq (key_of (sym w.text.ensures k))
          c.args.key.now)
          ∙ (λ k. bytes_eq (sym w.key_of.ensures k) c.args.key.now) ∙ sym w.if-eq.ensures
      | else-is_default-via-else-is_default w
          ↦ (λ k. sym w.if-is_default.ensures k && bytes_eq (key_of c.line-item.result.text)
          c.args.key.now)
    ])
    ∙ c.loop-line.invariant
