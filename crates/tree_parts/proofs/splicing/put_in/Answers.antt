use Rattle.tree_parts.proofs.LaidNodes.{part_is_in, part_kept}
use Rattle.tree_parts.proofs.splicing.put_in.Goals as goal

pub returns-clause-whole : goal.returns-clause-whole
returns-clause-whole c =
    part_is_in c.args.part.place c.args.nodes.now.items c.args.back.now.items
    c.lay_back.new.nodes.items c.lay_back.new.back.items c.args.part.nodes.items
    c.lay_back-2.new.nodes.items
    c.lay_back-2.new.back.items c.pop.new.self.items c.pop-2.new.self.items c.push.new.self.items
    c.in-Some.leaf c.in-Some-pop.root c.in_ok-joined.joined
    c.requires.some c.in_ok-lay_back.ensures.whole c.in_ok-lay_back.ensures.kept
    c.in_ok-lay_back-2.ensures.whole c.in_ok-lay_back-2.ensures.kept
    c.in-Some.ensures.items c.in-Some-pop.ensures.items c.in_ok-joined.ensures
    c.in_ok-push.ensures.items

pub returns-clause-kept : goal.returns-clause-kept
returns-clause-kept c =
    part_kept c.args.part.place c.lay_back.new.nodes.items c.pop.new.self.items c.in-Some.leaf
    c.in_ok-lay_back.ensures.kept c.in-Some.ensures.items
