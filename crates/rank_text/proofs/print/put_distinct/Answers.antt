use Rattle.std.proofs.Common.{◌≡◌, ◌∷◌, [], true, false, sym, ap, rules}
use Rattle.rank_check.specs.rank_rules.Spelling.{distinct_word, distinct_lines}
use Rattle.tree_text.proofs.Cited.{printed_as, none_put}
use Rattle.rank_text.proofs.print.put_distinct.Goals as goal

pub returns-then-not-distinct-clause-prints : goal.returns-then-not-distinct-clause-prints
returns-then-not-distinct-clause-prints g c =
    let e : c.args.distinct ≡ false = search rules in
    printed_as [] (distinct_lines c.args.distinct) _ _ _ (sym (ap distinct_lines e))
    (none_put _ _).prints

pub returns-clause-prints : goal.returns-clause-prints
returns-clause-prints g c =
    let e : c.args.distinct ≡ true = search rules in
    printed_as ((distinct_word ∷ []) ∷ []) (distinct_lines c.args.distinct) _ _ _
    (sym (ap distinct_lines e))
    (c.put_line.ensures.prints (distinct_word ∷ []) c.begin-made.ensures)
