use Rattle.std.proofs.Common.{ℕ, List, drop, sym, subst, add-one}
use Rattle.tree_parts.specs.problem_rules.Each.{Each}
use Rattle.tree_parts.specs.tree_rules.HeadKnown.{KnowsLine}
use Rattle.tree_parts.specs.branch_tree.HeadView.{line_of, lines_of}
use Rattle.tree_parts.specs.tree_rules.Head.{HeadLine}
use Rattle.tree_parts.proofs.cert_check.Cited.{step_ahead, none_ahead}
use Rattle.headed_search.proofs.numbers.knows_lines.Goals as goal

pub lines-init : goal.lines-init
lines-init c = λ h. h

pub lines-preserved : goal.lines-preserved
lines-preserved c =
    let p = c.args.site.now in
    let all = lines_of c.args.lines.now in
    let i = c.lines.i in
    let ahead =
    step_ahead line_of c.args.lines.now i c.index-lines-i.result c.lines-test.true
    c.index-lines-i.is in
    subst (λ (m : ℕ). Each (KnowsLine p) (drop m all) → Each (KnowsLine p) all) (sym (add-one i))
    (λ h. c.lines.invariant
    (subst (λ (xs : List HeadLine). Each (KnowsLine p) xs) (sym ahead)
    (c.knows_line.ensures c.if-not-knows_line.false, h)))

pub returns : goal.returns
returns c = λ h. c.lines.invariant
    (subst (λ (xs : List HeadLine). Each (KnowsLine c.args.site.now) xs)
    (sym (none_ahead line_of c.args.lines.now c.lines.i c.lines-test.false)) tt)
