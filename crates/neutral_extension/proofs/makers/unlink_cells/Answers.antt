use Rattle.std.proofs.Common.{◌≡◌, ◌+◌, ℕ, List, Some, sym, ap, ◌∙◌, subst, arith}
use Rattle.pgraph.specs.number_sets.Sets.{has, first, IsSet}
use Rattle.link_lists.specs.Lists.{Rows, unlinked, IsListed}
use Rattle.pgraph.specs.Tables.{shape}
use Rattle.neutral_extension.specs.Cells.{cell_at, unit_cells, out_cells}
use Rattle.neutral_extension.proofs.OutLemmas.{out_cells_push, cells_more, cells_none, from_all}
use Rattle.neutral_extension.proofs.OutLemmas.{from_none, from_made, from_cells, from_rest}
use Rattle.neutral_extension.proofs.makers.unlink_cells.Goals as goal

pub loop-x-init : goal.loop-x-init
loop-x-init c =
    let makes = (shape c.args.graph.now).makes in
    let into = c.into_iter-x-iterator.ensures.into_iter_gives in
    record {
      is_set = subst (IsSet 256) (sym into.0) into.1;
      out = (
        0,
        omega arith,
        from_all makes c.args.u c.into_iter-x-iterator.result
            (ap (λ (xs : List ℕ). has xs) into.0 ∙ c.outputs_of-x-items.ensures),
        ap (out_cells c.args.lists.now) (sym (cells_none makes c.args.u)),
      );
    }

pub unlink-requires : goal.unlink-requires
unlink-requires c =
    let g = shape c.args.graph.now in
    let u = c.args.u in
    let x = c.in-Some.x in
    let left = c.loop-x.x-iterator in
    let out = c.loop-x.invariant.out in
    let rising = c.loop-x.invariant.is_set.rising in
    let steps = c.in-Some.ensures.steps in
    let head : first left ≡ Some x = ap first steps in
    let m = from_made g.makes u out.0 left out.2 x rising head in
    let e = from_cells g.makes u out.0 left out.2 x rising head in
    subst (λ (k : Rows). IsListed k.lists (cell_at x u))
    (sym (out.3 ∙ ap (out_cells c.args.lists.now) (sym e)))
    (c.requires.listed x (c.is_proper.ensures.proper.output_known u x m) m)

pub loop-x-preserved : goal.loop-x-preserved
loop-x-preserved c =
    let g = shape c.args.graph.now in
    let u = c.args.u in
    let x = c.in-Some.x in
    let left = c.loop-x.x-iterator in
    let out = c.loop-x.invariant.out in
    let rising = c.loop-x.invariant.is_set.rising in
    let steps = c.in-Some.ensures.steps in
    let head : first left ≡ Some x = ap first steps in
    let m = from_made g.makes u out.0 left out.2 x rising head in
    let e = from_cells g.makes u out.0 left out.2 x rising head in
    let lt = c.is_proper.ensures.proper.output_known u x m in
    let before = subst (IsSet 256) steps c.loop-x.invariant.is_set in
    record {
      is_set = record { rising = before.rising.1; below = before.below.1 };
      out = (
        x + 1,
        omega arith,
        from_rest g.makes u out.0 left out.2 x rising head c.next.new.self steps,
        c.unlink.ensures.unlinked
            ∙ (ap (λ k. unlinked k (cell_at x u)) (out.3 ∙ ap (out_cells c.args.lists.now) (sym e))
            ∙ (sym (out_cells_push c.args.lists.now (unit_cells g.makes u x) (cell_at x u))
            ∙ ap (out_cells c.args.lists.now) (sym (cells_more g.makes u x m)))),
      );
    }

pub returns : goal.returns
returns c =
    let g = shape c.args.graph.now in
    let out = c.loop-x.invariant.out in
    out.3 ∙ ap (out_cells c.args.lists.now)
    (sym
    (from_none g.makes c.args.u out.0 c.loop-x.x-iterator out.2 g.materials out.1
    c.in-None.ensures.steps.0))
