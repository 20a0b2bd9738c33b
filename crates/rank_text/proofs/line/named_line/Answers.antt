use Rattle.std.proofs.Common.{◌∙◌, SFits, rules}
use Rattle.std.specs.Int.{w128}
use Rattle.std.proofs.lemmas.Int.{to_z-of_z}
use Rattle.rank_text.proofs.Printing.{line_of_more}
use Rattle.rank_text.proofs.line.named_line.Goals as goal

pub returns : goal.returns
returns c =
    let r : SFits w128 c.d.result = search rules in
    let number = simp to_z-of_z at c.in_ok-push_number.ensures in
    line_of_more _ _ _ _ _ _ _ _ (rw c.ys.ensures at c.in_ok-push_numbers.ensures)
    (rw c.d.ensures at number) c.in_ok-push_count.ensures
    (c.in_ok-begin.ensures ∙ c.way_word.ensures)
