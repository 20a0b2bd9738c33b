use Rattle.std.proofs.Common.{List, ℕ, Option, ap, sym, ◌∙◌, rules, tests}
use Rattle.std.proofs.lemmas.Iterator.Search.{all_from_yields_List}
use Rattle.std.proofs.lemmas.Iterator.Splits.{YieldsList-from_slice_split}
use Rattle.std.specs.Borrow.{Bor}
use Rattle.std.specs.List.{list_all}
use Rattle.tree_text_rules.specs.Line.{is_space, has_bytes}
use Rattle.tree_reading.specs.View.{tokens_in}
use Rattle.tree_reading.proofs.line.have_bytes.Goals as goal

pub returns-in-Some : goal.returns-in-Some
returns-in-Some c =
    all_from_yields_List has_bytes _ _ _ c.all.ensures.ran
    (YieldsList-from_slice_split _ is_space c.in-Some.text.now c.split.ensures.rest
    c.split.ensures.done c.split.ensures.closure (λ x r q k. search (rules, tests)))
    (λ x b q k. search (rules, tests))
    ∙ ap (λ (rest : Option (Bor (List ℕ))). list_all has_bytes (tokens_in rest)) (sym c.in-Some.is)
