use Rattle.std.proofs.Common.{◌∙◌, ap, refl, List, ℕ}
use Rattle.network_commands.specs.studio_rules.Lines.{text_of}
use Rattle.network_commands.specs.studio_rules.StableTable.{range_table}
use Rattle.stability_commands.proofs.table.table_of.Goals as goal

pub returns-clause-table : goal.returns-clause-table
returns-clause-table g c =
    let rows : List (List (List ℕ)) = c.in_ok-rows.rows.items in (
      range_table rows,
      (rows, c.in_ok-rows.ensures.rows, refl),
      c.in_ok-text.ensures
          ∙ ap (λ (r : List (List (List ℕ))). text_of (range_table r)) c.deref.ensures.value,
    )
