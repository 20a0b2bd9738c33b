use Rattle.std.proofs.Common.{◌==◌, ℕ, List, rules}
use Rattle.std.specs.Borrow.{Bor}
use Rattle.std.proofs.lemmas.Iterator.{YieldsList-from_map_by}
use Rattle.std.proofs.lemmas.Iterator.Consumers.{map_from_collect, YieldsList-at}
use Rattle.std.proofs.lemmas.Iterator.Splits.{YieldsList-from_slice_split}
use Rattle.edit_rules.specs.text_rules.Blanks.{trim}
use Rattle.text_lines.proofs.field.parts.Goals as goal

pub returns : goal.returns
returns c = map_from_collect _ c.collect.ensures.ran
    (YieldsList-from_map_by _ (λ (part : Bor (List ℕ)). part.now) trim
    (YieldsList-at c.map.ensures.source
    (YieldsList-from_slice_split _ (λ (b : ℕ). b == 44) c.args.text.now c.split.ensures.rest
    c.split.ensures.done c.split.ensures.closure (λ x b q called. search rules)))
    c.map.ensures.closure (λ x r q called. search rules))
