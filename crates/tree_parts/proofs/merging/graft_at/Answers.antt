use Rattle.std.proofs.Common.{◌+◌, ◌++◌, ◌∙◌, ap, take}
use Rattle.tree_text_laws.specs.tree_rules.Accepted.{Tree}
use Rattle.tree_parts.proofs.GraftLists.{from_on, pieces_joined}
use Rattle.tree_parts.proofs.merging.graft_at.Goals as goal

pub returns : goal.returns
returns c =
    pieces_joined c.args.at c.args.tree.now c.args.part.now c.index-tree-at.result
    c.index-part-0.result c.in_ok-joined.joined c.push_copies.new.into.items
    c.push.new.self.items c.push_copies-2.new.into.items c.push_copies-3.new.into.items
    c.requires.within c.requires.some c.index-tree-at.is c.index-part-0.is
    (c.in_ok-push_copies.ensures
    ∙ ap (λ (us : Tree). us ++ take c.args.at c.args.tree.now) c.new-nodes.ensures.items)
    c.in_ok-joined.ensures c.in_ok-push.ensures.items
    (c.in_ok-push_copies-2.ensures
    ∙ ap (λ (us : Tree). c.push.new.self.items ++ us) (from_on c.args.part.now 1))
    (c.in_ok-push_copies-3.ensures
    ∙ ap (λ (us : Tree). c.push_copies-2.new.into.items ++ us)
    (from_on c.args.tree.now (c.args.at + 1)))
