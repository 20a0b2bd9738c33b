use Rattle.std.proofs.Common.{rules}
use Rattle.text_lines.specs.Terms.{sides_view}
use Rattle.edit_scripts.proofs.TermsRead.{sides_same}
use Rattle.edit_scripts.proofs.TokenCounts.{unit_at, not_unit}
use Rattle.edit_scripts.proofs.insertion.insert_unit.Goals as goal

pub returns-in_err-judge-in-len7-up : goal.returns-in_err-judge-in-len7-up
returns-in_err-judge-in-len7-up c =
    rw (unit_at c.args.fields.now (sides_view c.in-Some.sides) _ c.in-len7-up.len_at_least
    c.as_slice.ensures c.if-ne.ensures (search (rules, sides_same))) (search rules)

pub returns-in_ok-named_terms-in-len7-up-2 : goal.returns-in_ok-named_terms-in-len7-up-2
returns-in_ok-named_terms-in-len7-up-2 c =
    rw (unit_at c.args.fields.now (sides_view c.in-Some.sides) _ c.in-len7-up.len_at_least
    c.as_slice.ensures c.if-ne.ensures (search (rules, sides_same))) (search rules)

pub returns-in_default : goal.returns-in_default
returns-in_default c = not_unit c.args.fields.now (search rules)
