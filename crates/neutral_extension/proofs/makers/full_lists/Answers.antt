use Rattle.std.proofs.Common.{◌≡◌, ◌*◌, [], ◌∷◌, ◌++◌, sym, ap, ◌∙◌, arith}
use Rattle.pgraph.specs.Tables.{shape}
use Rattle.neutral_extension.proofs.KeptLemmas.{filled_more, filled_all, bands_of, open_is}
use Rattle.neutral_extension.proofs.makers.full_lists.Goals as goal

pub fill-requires-clause-bands : goal.fill-requires-clause-bands
fill-requires-clause-bands c =
    let f = c.loop-x.invariant.filled in
    bands_of c.loop-x.lists.lists f.0 c.loop-x.x f.1.sets f.1.filled c.loop-x.invariant.empty

pub returns : goal.returns
returns c =
    let test = c.loop-x-test.false in
    let auto = c.loop-x.auto.x-end in
    let count = c.material_count-count.ensures in
    let inv = c.loop-x.invariant in
    let f = inv.filled in
    let g = shape c.args.graph.now in
    let end : c.loop-x.x ≡ g.materials = omega arith in
    let all = filled_all g c.loop-x.lists.lists f.0 c.loop-x.x c.is_proper.ensures.proper end f.1 in
    let size = all.count in (
      f.0,
      all,
      open_is c.loop-x.lists f.0 (inv.cells ∙ ap (λ n. n * 128) (sym size)) (inv.count ∙ sym size)
          inv.stack (λ y lt. f.1.filled y (omega arith)),
    )

pub loop-x-preserved : goal.loop-x-preserved
loop-x-preserved c =
    let inv = c.loop-x.invariant in
    let f = inv.filled in
    let is = c.fill.ensures in
    record {
      cells = is.cells ∙ inv.cells;
      count = is.count ∙ inv.count;
      stack = is.stack;
      filled = (
        f.0 ++ c.producers-producers.result ∷ [],
        filled_more (shape c.args.graph.now) c.loop-x.x c.loop-x.lists.lists c.fill.new.lists.lists
            f.0 c.producers-producers.result c.producers-producers.ensures c.rises.ensures is.here
            is.others f.1,
      );
      empty = λ y le. is.others y (λ e. omega arith) ∙ inv.empty y (omega arith);
    }
