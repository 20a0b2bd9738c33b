use Rattle.std.proofs.Common.{◌<◌, length, arith}
use Rattle.link_lists.proofs.Vectors.{next_resized, prev_resized}
use Rattle.link_lists.proofs.links.lengthen.Goals as goal

pub returns-then-len-clause-next : goal.returns-then-len-clause-next
returns-then-len-clause-next c =
    let ok = c.args.links.now.ok in
    let short : length c.args.links.now.items < c.args.len = omega arith in
    next_resized c.args.links.now.items c.resize.new.self.items c.args.len _ short _
    c.resize.ensures.items

pub returns-then-len-clause-prev : goal.returns-then-len-clause-prev
returns-then-len-clause-prev c =
    let ok = c.args.links.now.ok in
    let short : length c.args.links.now.items < c.args.len = omega arith in
    prev_resized c.args.links.now.items c.resize.new.self.items c.args.len _ short _
    c.resize.ensures.items
