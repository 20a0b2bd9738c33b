use Rattle.std.proofs.Common.{◌≤◌, ◌+◌, List, take, length, refl, sym, subst}
use Rattle.tree_text_laws.specs.problem_rules.Each.{Each}
use Rattle.tree_text_laws.specs.pns_rules.Shape.{shape_of}
use Rattle.cert_check.specs.Known.{KnowsInside}
use Rattle.tree_text_laws.specs.branch_tree.View.{claim_of}
use Rattle.tree_text_laws.specs.tree_text_rules.Part.{Part, start_of}
use Rattle.tree_text_laws.specs.tree_text_rules.Several.{AreMerged, StopsAt}
use Rattle.tree_parts.proofs.InTurn.{rest_on, each_on, more_back, stops_behind}
use Rattle.tree_parts.proofs.several.merge_all.Goals as goal

pub merge_some-requires-clause-known : goal.merge_some-requires-clause-known
merge_some-requires-clause-known c =
    subst
    (λ (ps : List Part). Each (λ part. KnowsInside (shape_of c.args.site.now) (start_of part))
    ps) (sym (rest_on c.args.parts.now c.merging.at))
    (each_on (λ part. KnowsInside (shape_of c.args.site.now) (start_of part)) c.merging.at
    c.args.parts.now c.requires.known)

pub merging-preserved : goal.merging-preserved
merging-preserved c =
    let p = c.args.site.now in
    let both = claim_of c.merging.both in
    let rest = rest_on c.args.parts.now c.merging.at in
    let n = c.in-Ok.merged.count in
    more_back p (claim_of c.args.claim) c.args.tree c.args.parts.now c.merging.at n
    (c.merging.at + n) both (claim_of c.in-Ok.merged.claim) c.merging.whole c.in-Ok.merged.tree
    refl
    (subst (λ (ps : List Part). n ≤ length ps) rest c.in-Ok.ensures.within) c.merging.invariant
    (subst
    (λ (ps : List Part). AreMerged p both c.merging.whole (take n ps)
    (claim_of c.in-Ok.merged.claim) c.in-Ok.merged.tree) rest c.in-Ok.ensures.merged)

pub returns-in-Err-clause-fault : goal.returns-in-Err-clause-fault
returns-in-Err-clause-fault c =
    let p = c.args.site.now in
    let both = claim_of c.merging.both in
    let rest = rest_on c.args.parts.now c.merging.at in
    let stop = c.in-Err.stop in
    stops_behind p (claim_of c.args.claim) c.args.tree c.args.parts.now c.merging.at stop.part
    (c.merging.at + stop.part) both c.merging.whole stop.fault refl c.merging.invariant
    (subst (λ (ps : List Part). StopsAt p both c.merging.whole ps stop.part stop.fault) rest
    c.in-Err.ensures.fault)
