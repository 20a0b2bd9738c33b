use Rattle.std.proofs.Common.{◌≡◌, ◌∙◌, ◌++◌, ◌∷◌, [], List, None, Option, Ok, ap, sym, subst}
use Rattle.std.proofs.Common.{rules}
use Rattle.std.proofs.Common.{arith}
use Rattle.std.proofs.lemmas.Result.{err_from_is_err_and}
use Rattle.tree_text_rules.specs.problem_rules.Each.{Each}
use Rattle.tree_text_rules.specs.tree_rules.Head as heads
use Rattle.tree_text_rules.specs.tree_rules.HeadKnown.{KnowsLine}
use Rattle.branch_tree.specs.HeadView.{line_of, lines_of}
use Rattle.branch_tree.specs.declared.line.HeadLine.{HeadLine}
use Rattle.tree_text_rules.specs.Read.{front_taken}
use Rattle.tree_reading.specs.Front.{GivesLine}
use Rattle.tree_reading.specs.Place.{lines_at}
use Rattle.tree_reading.specs.declared.cut.Cut.{Cut}
use Rattle.tree_reading.proofs.FrontLines.{nothing_before, lines_last, more_before, front_done}
use Rattle.tree_reading.proofs.FrontLines.{front_told}
use Rattle.tree_reading.proofs.NodeByNode.{each_last}
use Rattle.tree_reading.proofs.front.read_front.Goals as goal

pub front-init : goal.front-init
front-init c =
    let none : c.new-front.result.items ≡ [] = search rules in
    record {
      leads =
          nothing_before (lines_of c.new-front.result.items)
          (front_taken c.args.problem.now None c.args.cut.line
          (lines_at c.args.bytes.now c.args.cut)) (ap lines_of none);
      reached = search rules;
      known = search rules;
    }

pub returns-in_err-line-clause-fault : goal.returns-in_err-line-clause-fault
returns-in_err-line-clause-fault c =
    let e = err_from_is_err_and c.from_residual.result c.from_residual.ensures.1 in
    rw (e.1, e.2)
    (front_told (lines_of c.front.front.items) _ _ _ c.front.invariant.leads c.in_err-line.ensures)

pub front-preserved : goal.front-preserved
front-preserved c =
    let p = c.args.problem.now in
    let line =
    subst (λ (o : Option (HeadLine × Cut)). GivesLine p c.args.bytes.now c.front.at (Ok o))
    c.in-Some.is c.in_ok-line.ensures in
    let items = c.in_ok-push.ensures.items in
    let grown : lines_of c.push.new.self.items
    ≡ lines_of c.front.front.items ++ line_of c.in-Some.line ∷ [] =
    ap lines_of items ∙ lines_last c.front.front.items c.in-Some.line in
    let before = c.front.invariant.reached.later in
    let later = line.behind.later in
    record {
      leads =
          more_before (lines_of c.front.front.items) (lines_of c.push.new.self.items)
          (line_of c.in-Some.line) _ _ _ c.front.invariant.leads line.reads grown;
      reached = record { is_cut = line.behind.is_cut; later = omega (arith, before, later) };
      known =
          subst (λ (ls : List heads.HeadLine). Each (KnowsLine p) ls) (sym grown)
          (each_last (KnowsLine p) (lines_of c.front.front.items) (line_of c.in-Some.line)
          c.front.invariant.known line.known);
    }

pub returns-clause-ok : goal.returns-clause-ok
returns-clause-ok c =
    let p = c.args.problem.now in
    front_done (lines_of c.front.front.items) c.front.at.line
    (lines_at c.args.bytes.now c.front.at) _ _ c.front.invariant.leads
    (subst (λ (o : Option (HeadLine × Cut)). GivesLine p c.args.bytes.now c.front.at (Ok o))
    c.in_default.is c.in_ok-line.ensures)
