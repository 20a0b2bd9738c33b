use Rattle.std.proofs.Common.{◌≡◌, Option, IfOk, option_map, subst, List, sym}
use Rattle.std.specs.List.{slice_split}
use Rattle.text_lines.specs.View.{texts}
use Rattle.edit_rules.specs.text_rules.Term.{Pair}
use Rattle.text_lines.specs.Terms.{sides_view, is_arrow}
use Rattle.text_lines.proofs.Sides.{sides-two}
use Rattle.text_lines.proofs.term.sides_in.Goals as goal

pub returns-in-Some : goal.returns-in-Some
returns-in-Some c =
    let law =
    sides-two (slice_split is_arrow (texts c.args.tokens.now)) (texts c.in-Some.left.now)
    (texts c.in-Some.right.now) c.in-Some.ensures in
    subst
    (λ (whole : Option (List Pair × List Pair)). IfOk c.read_sides.result
    (λ found. option_map sides_view found ≡ whole)) (sym law) c.read_sides.ensures
