use Rattle.std.proofs.Common.{ℕ, List, drop, sym, subst, add-one}
use Rattle.tree_parts.specs.problem_rules.Each.{Each}
use Rattle.tree_parts.specs.tree_rules.Known.{KnowsCover}
use Rattle.tree_parts.specs.pgraph.CoversView.{cover_of, covers_of}
use Rattle.tree_parts.specs.flow_rules.Cover.{Cover}
use Rattle.tree_parts.proofs.cert_check.Cited.{step_ahead, none_ahead}
use Rattle.headed_search.proofs.numbers.knows_covers.Goals as goal

pub covers-init : goal.covers-init
covers-init c = λ h. h

pub covers-preserved : goal.covers-preserved
covers-preserved c =
    let p = c.args.site.now in
    let all = covers_of c.args.covers.now in
    let i = c.covers.i in
    let ahead =
    step_ahead cover_of c.args.covers.now i c.index-covers-i.result c.covers-test.true
    c.index-covers-i.is in
    subst (λ (m : ℕ). Each (KnowsCover p) (drop m all) → Each (KnowsCover p) all) (sym (add-one i))
    (λ h. c.covers.invariant
    (subst (λ (xs : List Cover). Each (KnowsCover p) xs) (sym ahead)
    (c.knows_cover.ensures c.if-not-knows_cover.false, h)))

pub returns : goal.returns
returns c = λ h. c.covers.invariant
    (subst (λ (xs : List Cover). Each (KnowsCover c.args.site.now) xs)
    (sym (none_ahead cover_of c.args.covers.now c.covers.i c.covers-test.false)) tt)
