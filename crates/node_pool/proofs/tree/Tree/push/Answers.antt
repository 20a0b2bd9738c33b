use Rattle.std.proofs.Common.{◌≡◌, length, sym, subst, arith}
use Rattle.node_pool.specs.Tree.{Branches, IsThere}
use Rattle.node_pool.specs.Kin.{parents_of, IsLinked, IsAdoptedBy}
use Rattle.node_pool.proofs.Linked.{pushed_linked, last_is_node}
use Rattle.node_pool.proofs.tree.Tree.push.Goals as goal

pub adopt_by-requires-clause-last : goal.adopt_by-requires-clause-last
adopt_by-requires-clause-last c =
    λ p l _ e. last_is_node c.self.inside.kin.items c.self.invariant p l e

pub invariant_of-self : goal.invariant_of-self
invariant_of-self c =
    let old = c.self.inside.kin.items in
    let ok = c.self.inside.kin.ok in
    let there : IsThere (parents_of old) c.args.parent =
    subst (λ (t : Branches). IsThere t.parents c.args.parent) (sym c.self.view_is)
    c.requires.there in
    let id : c.len-id.result ≡ length old = omega arith in
    let adopted : IsAdoptedBy old c.adopt_by.new.kin.items c.args.parent (length old) =
    subst (IsAdoptedBy old c.adopt_by.new.kin.items c.args.parent) id
    c.adopt_by.ensures.adopted in
    subst (λ kin. IsLinked (parents_of kin) kin) (sym c.push_reserved.ensures.items)
    (pushed_linked old c.adopt_by.new.kin.items c.args.parent c.self.invariant there adopted)
