use Rattle.std.proofs.Common.{◌++◌, ◌∷◌, [], ◌∙◌, ap, ℕ, List, string_bytes}
use Rattle.report_amounts.specs.report_rules.Aligned.{before, behind, shown, gap_left}
use Rattle.report_tables.proofs.Pieces.{after}
use Rattle.report_tables.proofs.line.push_kept.Goals as goal

pub returns : goal.returns
returns c =
    let cell = c.args.cell.now in
    let heading = c.args.heading in
    let column = c.args.column.now in
    let g1 = c.in_ok-push_before.ensures in
    record {
      text = c.in_ok-push_shown.ensures.text
          ∙ ap (λ (g : List ℕ). string_bytes c.args.text.now ++ shown g cell) g1;
      gap =
          after (gap_left (string_bytes c.args.gap.now ++ before heading column cell) cell)
          (string_bytes c.push_behind.new.gap) (string_bytes c.push_str.new.self)
          (behind heading column cell) (32 ∷ 32 ∷ [])
          (c.in_ok-push_behind.ensures
          ∙ ap (λ (g : List ℕ). g ++ behind heading column cell)
          (c.in_ok-push_shown.ensures.gap ∙ ap (λ (g : List ℕ). gap_left g cell) g1))
          c.in_ok-push_str.ensures.bytes;
    }
