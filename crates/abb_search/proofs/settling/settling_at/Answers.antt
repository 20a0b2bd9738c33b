use Rattle.std.proofs.Common.{◌≡◌, List, ℤ, Some, None, sym, ap, ◌∙◌, subst}
use Rattle.std.specs.Prelude.{option_copied}
use Rattle.slab.specs.Slab.{get}
use Rattle.node_evaluation.specs.pns_rules.Shape.{shape_of}
use Rattle.node_evaluation.specs.pns_rules.Ends.{IsSound, IsReduced}
use Rattle.node_evaluation.specs.pgraph.View.{node_of}
use Rattle.node_evaluation.specs.unit_sets.declared.node.Node.{Node}
use Rattle.node_evaluation.specs.tree_rules.Leaf.{IsRefuted}
use Rattle.abb_search.specs.Growing.{ready_at}
use Rattle.abb_search.proofs.SettleLemmas.{waits_open, never_none, never_settled, refuted_at}
use Rattle.abb_search.proofs.SettleLemmas.{reduced_there}
use Rattle.abb_search.proofs.settling.settling_at.Goals as goal

pub unreachable-requires : goal.unreachable-requires
unreachable-requires g c =
    let s = c.args.growing.now in
    let e : ready_at s c.args.leaf ≡ None =
    ap (λ k. get s.ready k) (sym c.key_at.ensures)
    ∙ (sym c.get.ensures ∙ ap option_copied c.in_default.is) in
    never_none c.args.site.now s c.requires.growing.1 c.args.leaf c.requires.leaf c.requires.waits e

pub unreachable-requires-in-Settled : goal.unreachable-requires-in-Settled
unreachable-requires-in-Settled g c =
    let s = c.args.growing.now in
    let q = c.in-Some.ready.now in
    let e : ready_at s c.args.leaf ≡ Some q =
    ap (λ k. get s.ready k) (sym c.key_at.ensures)
    ∙ (sym c.get.ensures ∙ ap option_copied c.in-Some.is) in
    never_settled c.args.site.now s c.requires.growing.1 c.args.leaf c.requires.leaf
    c.requires.waits q c.in-Settled.field-0 e c.in-Settled.is

pub settle-requires-clause-sound : goal.settle-requires-clause-sound
settle-requires-clause-sound g c =
    subst (λ (k : Node). IsSound (shape_of c.args.site.now) (node_of k)) (sym c.requires.node)
    (c.requires.growing.1.tree.kept.sound c.args.leaf c.requires.leaf)

pub settle-requires-clause-reduced : goal.settle-requires-clause-reduced
settle-requires-clause-reduced g c =
    let s = c.args.growing.now in
    let gr = c.requires.growing.1 in
    subst (λ (k : Node). IsReduced (shape_of c.args.site.now) (node_of k)) (sym c.requires.node)
    (reduced_there c.args.site.now s gr c.args.leaf c.requires.leaf
    (waits_open c.args.site.now s gr c.args.leaf c.requires.leaf c.requires.waits))

pub returns-in_ok-copy-in-Refuted-clause-settled : goal.returns-in_ok-copy-in-Refuted-clause-settled
returns-in_ok-copy-in-Refuted-clause-settled g c =
    let p = c.args.site.now in
    let s = c.args.growing.now in
    let q = c.in-Some.ready.now in
    let e : ready_at s c.args.leaf ≡ Some q =
    ap (λ k. get s.ready k) (sym c.key_at.ensures)
    ∙ (sym c.get.ensures ∙ ap option_copied c.in-Some.is) in
    subst (λ (ys : List ℤ). IsRefuted p (node_of c.args.node) ys)
    (sym c.in_ok-copy-in-Refuted.ensures)
    (subst (λ (k : Node). IsRefuted p (node_of k) c.in-Refuted.ys) (sym c.requires.node)
    (refuted_at p s c.requires.growing.1 c.args.leaf c.requires.leaf c.requires.waits q
    c.in-Refuted.ys e c.in-Refuted.is))
