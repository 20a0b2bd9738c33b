use Rattle.std.proofs.Common.{ap, ◌∙◌, arith}
use Rattle.std.proofs.lemmas.List.{get_or_read}
use Rattle.pgraph.specs.number_sets.Sets.{has}
use Rattle.neutral_extension.specs.Candidates.{Candidates}
use Rattle.neutral_extension.proofs.LeadLemmas.{read_more, read_below}
use Rattle.neutral_extension.proofs.makers.Makers.taken_out.Goals as goal

pub with-out-requires : goal.with-out-requires
with-out-requires c =
    let s = c.self.inside in
    let held = c.self.invariant in
    let lt = c.units-test.true in
    let room = held.room in
    let deep = held.deep in
    read_below s.order.items c.args.self.now.taken s.count c.units.i c.index.result.now
    (omega arith) (omega arith) (ap (λ (k : Candidates). k.taken) c.self.view_is)
    (get_or_read s.order.items c.units.i c.index.result.now (omega arith) c.index.ensures 0) 128
    held.kept.below

pub units-preserved : goal.units-preserved
units-preserved c =
    let s = c.self.inside in
    let held = c.self.invariant in
    let lt = c.units-test.true in
    let room = held.room in
    let deep = held.deep in
    λ v. ap (λ xs. has xs v) c.with-out.ensures
    ∙ read_more s.order.items c.args.self.now.taken s.count c.units.i c.index.result.now
    (omega arith) (omega arith) (ap (λ (k : Candidates). k.taken) c.self.view_is)
    (get_or_read s.order.items c.units.i c.index.result.now (omega arith) c.index.ensures 0)
    c.units.out c.units.invariant v
