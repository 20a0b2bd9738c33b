use Rattle.std.proofs.Common.{List, Ok, ap, refl}
use Rattle.tree_text_rules.specs.flow_rules.declared.place.Column.{Column}
use Rattle.tree_reading.proofs.column_list.take_column.Goals as goal

pub returns-in-Some-Err-clause-next : goal.returns-in-Some-Err-clause-next
returns-in-Some-Err-clause-next c =
    rw (c.in-Some-Err.is-0, ← c.in-Some-Err.ensures.value, c.lesser.ensures) refl

pub returns-in_ok-push-in-None-Ok-clause-next : goal.returns-in_ok-push-in-None-Ok-clause-next
returns-in_ok-push-in-None-Ok-clause-next c =
    rw (c.in-None-Ok.is-0, ← c.in-None-Ok.ensures.value)
    (ap (λ (columns : List Column). Ok columns) c.in_ok-push-in-None-Ok.ensures.items)
