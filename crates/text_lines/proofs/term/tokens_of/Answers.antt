use Rattle.std.proofs.Common.{◌==◌, ℕ, List, not, length, rules}
use Rattle.std.proofs.lemmas.Iterator.Consumers.{map_from_collect, YieldsList-at}
use Rattle.std.proofs.lemmas.Iterator.Consumers.{YieldsList-from_filter}
use Rattle.std.proofs.lemmas.Iterator.Splits.{YieldsList-from_slice_split}
use Rattle.edit_rules.specs.text_rules.Blanks.{is_blank}
use Rattle.text_lines.proofs.term.tokens_of.Goals as goal

pub returns : goal.returns
returns c = map_from_collect _ c.collect.ensures.ran
    (YieldsList-from_filter _ (λ (token : List ℕ). not (length token == 0))
    (YieldsList-at c.filter.ensures.source
    (YieldsList-from_slice_split _ is_blank c.args.text.now c.split.ensures.rest
    c.split.ensures.done c.split.ensures.closure (λ x b q called. search rules)))
    c.filter.ensures.closure (λ x b q called. search rules))
