use Rattle.std.proofs.Common.{ap, arith}
use Rattle.std.proofs.lemmas.List.{get_or_read}
use Rattle.neutral_extension.specs.Candidates.{Candidates}
use Rattle.neutral_extension.proofs.LeadLemmas.{read_below}
use Rattle.neutral_extension.proofs.makers.Makers.front_within.Goals as goal

pub has-requires : goal.has-requires
has-requires c =
    let s = c.self.inside in
    let held = c.self.invariant in
    let lt = c.front-test.true in
    let room = held.room in
    let deep = held.deep in
    read_below s.order.items c.args.self.now.taken s.count c.front.front c.index.result.now
    (omega arith) (omega arith) (ap (λ (k : Candidates). k.taken) c.self.view_is)
    (get_or_read s.order.items c.front.front c.index.result.now (omega arith) c.index.ensures 0) 128
    held.kept.below
