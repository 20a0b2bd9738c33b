use Rattle.std.proofs.Common.{map, subst, List, ap}
use Rattle.std.proofs.lemmas.List.{drop_all}
use Rattle.tree_text_rules.specs.problem_rules.Each.{Each}
use Rattle.flow_program.specs.pgraph.CoversView.{covers_of}
use Rattle.flow_program.specs.pgraph.declared.cover.Cover.{Cover}
use Rattle.tree_text_rules.specs.tree_rules.Known.{KnowsCover}
use Rattle.tree_text_rules.specs.Spelling.{cover_line}
use Rattle.tree_text.proofs.Printed.{none_put, both_put, first_failed, item_ahead}
use Rattle.tree_text.proofs.part.put_covers.Goals as goal

pub put_cover-requires : goal.put_cover-requires
put_cover-requires g c =
    let ahead =
    item_ahead c.args.covers.now c.printing.cover-index c.cover-item.result c.printing-test.true
    c.cover-item.is in
    (subst (λ (cs : List Cover). Each (KnowsCover c.args.problem.now) (covers_of cs)) ahead
    c.printing.invariant.known).0

pub returns-in_err-put_cover : goal.returns-in_err-put_cover
returns-in_err-put_cover g c =
    let ahead =
    item_ahead c.args.covers.now c.printing.cover-index c.cover-item.result c.printing-test.true
    c.cover-item.is in
    c.printing.invariant.finishes _ _
    (first_failed _ c.in_err-put_cover.ensures c.from_residual.ensures.1
    (ap (λ (cs : List Cover). map (cover_line c.args.problem.now) (covers_of cs)) ahead))

pub printing-preserved : goal.printing-preserved
printing-preserved g c =
    let ahead =
    item_ahead c.args.covers.now c.printing.cover-index c.cover-item.result c.printing-test.true
    c.cover-item.is in
    record {
      known =
          (subst (λ (cs : List Cover). Each (KnowsCover c.args.problem.now) (covers_of cs)) ahead
          c.printing.invariant.known).1;
      finishes =
          λ last r rest. c.printing.invariant.finishes last r
          (both_put c.in_ok-put_cover.ensures rest
          (ap (λ (cs : List Cover). map (cover_line c.args.problem.now) (covers_of cs)) ahead));
    }

pub returns : goal.returns
returns g c =
    c.printing.invariant.finishes _ _
    (rw (drop_all c.printing.cover-index c.args.covers.now c.printing-test.false) (none_put _ _))
