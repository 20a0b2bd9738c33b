-- Lines that are printed one after the other are read back.
use Rattle.std.proofs.Common.{◌≡◌, ◌==◌, false, ℕ, List, map, flat_map, ◌∙◌, ap}
use Rattle.std.specs.List.{list_any}
use Rattle.edit_rules.specs.problem_rules.Each.{Each}
use Rattle.edit_rules.specs.text_rules.Line.{without_return, without_empty_last, without_remark}
use Rattle.text_laws.proofs.Cited.{each-to, map_same, split_lines, without_last, plain_kept}
use Rattle.edit_rules.specs.Line.{is_feed, script_lines}
use Rattle.edit_rules.specs.Printed.{printed}

-- a line as it is printed: no line feed, no carriage return and no number sign
pub record IsLine (text : List ℕ) : Type 0 where
  pub feed : list_any is_feed text ≡ false
  pub ret : list_any (λ c. c == 13) text ≡ false
  pub sign : list_any (λ c. c == 35) text ≡ false

pub lines_back : (lines : List (List ℕ)) → Each IsLine lines
    → script_lines (flat_map printed lines) ≡ lines
lines_back lines each =
    ap (λ parts. map (λ part. without_remark (without_return part)) (without_empty_last parts))
    (split_lines lines
    (each-to IsLine (λ line. list_any is_feed line ≡ false) (λ line is. is.feed) lines each))
    ∙ ap (map (λ part. without_remark (without_return part))) (without_last lines)
    ∙ map_same (λ part. without_remark (without_return part)) lines
    (each-to IsLine (λ line. without_remark (without_return line) ≡ line)
    (λ line is. plain_kept line is.ret is.sign) lines each)
