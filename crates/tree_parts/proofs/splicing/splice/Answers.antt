use Rattle.std.proofs.Common.{List, ap, subst, ◌∙◌, length}
use Rattle.tree_parts.specs.Splices.{Splice}
use Rattle.tree_parts.specs.declared.waiting.Waiting.{Waiting}
use Rattle.tree_parts.specs.Waiting.{splice_of, splices_of}
use Rattle.tree_parts.proofs.LaidNodes.{IsSplicing, one_spliced, splices-push, last_within}
use Rattle.tree_parts.proofs.splicing.splice.Goals as goal

pub splicing-preserved : goal.splicing-preserved
splicing-preserved c =
    let all : List Splice = splices_of c.args.waiting.items in
    let left : List Splice = splices_of c.pop.new.self.items in
    let last = ap (λ (ws : List Waiting). splices_of ws) c.in-Some.ensures.items
    ∙ splices-push c.pop.new.self.items c.in-Some.part in
    one_spliced all c.args.tree.items c.splicing.nodes.items c.splicing.back.items
    c.put_in.new.nodes.items c.put_in.new.back.items left (splice_of c.in-Some.part)
    c.requires.rising
    (subst
    (λ (ss : List Splice). IsSplicing all c.args.tree.items c.splicing.nodes.items
    c.splicing.back.items ss) last c.splicing.invariant)
    c.in_ok-put_in.ensures.whole c.in_ok-put_in.ensures.kept

pub put_in-requires-clause-within : goal.put_in-requires-clause-within
put_in-requires-clause-within c =
    let all : List Splice = splices_of c.args.waiting.items in
    let left : List Splice = splices_of c.pop.new.self.items in
    let last = ap (λ (ws : List Waiting). splices_of ws) c.in-Some.ensures.items
    ∙ splices-push c.pop.new.self.items c.in-Some.part in
    let before =
    subst
    (λ (ss : List Splice). IsSplicing all c.args.tree.items c.splicing.nodes.items
    c.splicing.back.items ss) last c.splicing.invariant in
    (last_within (length c.splicing.nodes.items) left (splice_of c.in-Some.part) before.within).0

pub put_in-requires-clause-some : goal.put_in-requires-clause-some
put_in-requires-clause-some c =
    let all : List Splice = splices_of c.args.waiting.items in
    let left : List Splice = splices_of c.pop.new.self.items in
    let last = ap (λ (ws : List Waiting). splices_of ws) c.in-Some.ensures.items
    ∙ splices-push c.pop.new.self.items c.in-Some.part in
    let before =
    subst
    (λ (ss : List Splice). IsSplicing all c.args.tree.items c.splicing.nodes.items
    c.splicing.back.items ss) last c.splicing.invariant in
    (last_within (length c.splicing.nodes.items) left (splice_of c.in-Some.part) before.within).1
