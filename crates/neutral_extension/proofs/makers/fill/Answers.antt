use Rattle.std.proofs.Common.{◌∙◌, ◌++◌, map, length, ap, subst}
use Rattle.pgraph.specs.number_sets.Sets.{IsSet}
use Rattle.link_lists.specs.Lists.{Rows, row}
use Rattle.link_lists.proofs.Cited.{length-pushed}
use Rattle.neutral_extension.specs.Cells.{cell_at}
use Rattle.neutral_extension.proofs.KeptLemmas.{fill_free, fill_here, fill_others}
use Rattle.neutral_extension.proofs.makers.fill.Goals as goal

pub push_back-requires-clause-free : goal.push_back-requires-clause-free
push_back-requires-clause-free c =
    let x = c.args.x in
    let u = c.in-Some.u in
    let inv = c.loop-u.invariant in
    let head = c.in-Some.ensures.steps in
    let before = subst (IsSet 128) head inv.is_set in
    fill_free c.args.lists.now c.loop-u.lists x u c.args.set c.loop-u.u-iterator c.next.new.self
    c.into_iter-u-iterator.ensures.into_iter_gives.1.rising c.requires.list.0 c.requires.bands
    inv.count inv.here inv.others before.below.0 head

pub loop-u-preserved : goal.loop-u-preserved
loop-u-preserved c =
    let x = c.args.x in
    let u = c.in-Some.u in
    let inv = c.loop-u.invariant in
    let head = c.in-Some.ensures.steps in
    let before = subst (IsSet 128) head inv.is_set in
    let is = c.push_back.ensures in
    record {
      is_set = record { rising = before.rising.1; below = before.below.1 };
      cells = ap (λ (r : Rows). r.cells) is ∙ inv.cells;
      count = ap (λ (r : Rows). length r.lists) is
          ∙ (length-pushed c.loop-u.lists.lists x (cell_at x u) ∙ inv.count);
      stack = ap (λ (r : Rows). r.stack) is ∙ inv.stack;
      here = ap (λ (r : Rows). row r.lists x ++ map (cell_at x) c.next.new.self) is
          ∙ fill_here c.args.lists.now c.loop-u.lists x u c.args.set c.loop-u.u-iterator
          c.next.new.self c.into_iter-u-iterator.ensures.into_iter_gives.1.rising
          c.requires.list.0 c.requires.bands inv.count inv.here inv.others before.below.0 head;
      others = λ y ne. ap (λ (r : Rows). row r.lists y) is
          ∙ fill_others c.args.lists.now c.loop-u.lists x u c.args.set c.loop-u.u-iterator
          c.next.new.self c.into_iter-u-iterator.ensures.into_iter_gives.1.rising c.requires.list.0
          c.requires.bands inv.count inv.here inv.others before.below.0 head y ne;
    }
